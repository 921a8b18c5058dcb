use Rattle.std.proofs.Common.{refl, sym, ap, ◌∙◌}
use Rattle.std.specs.Prelude.{ℕ, Option}
use Rattle.std.proofs.Math.Path.{fun_ext}
use Rattle.std.proofs.lemmas.Result.{on_ok_weaker, on_err_weaker}
use Rattle.rbd_kinds.specs.declared.header.HeaderView.{HeaderView}
use Rattle.rbd_site.specs.HeaderStep.{header_after}
use Rattle.rbd_site.specs.Maps.{kept}
use Rattle.rbd_site.specs.Records.{with_header}
use Rattle.rbd_site.specs.WatchStep.{receivers, watchers_after}
use Rattle.rbd_site.proofs.TrimLemmas.{with_watchers_same}
use Rattle.rbd_site.proofs.WatchLemmas.{if_there, others_untold, others_watched}
use Rattle.rbd_site.proofs.store.Store.serve_on_header.Goals as goal

pub change-requires : goal.change-requires
change-requires c = record {
  may = c.requires.may;
  generation = if_there ((kept c.args.self.now).headers c.args.image) (c.requires.generation c.args.image);
}

pub returns-in-Remove-clause-ok : goal.returns-in-Remove-clause-ok
returns-in-Remove-clause-ok c = rw c.in-Remove.is (c.remove_header.ensures c.args.me.now)

pub returns-in_default : goal.returns-in_default
returns-in_default c =
    let r = kept c.args.self.now in
    let image = c.args.image in
    let me = c.args.me.now in
    let o = c.args.op.now in
    let h = header_after me (r.headers image) o in
    let same = with_watchers_same image (watchers_after me (r.headers image) (r.watchers image) o) r
    (others_watched me (r.headers image) (r.watchers image) o c.in_default.not-Watch c.in_default.not-Unwatch c.in_default.not-Remove) in
    record {
      ok =
          on_ok_weaker c.change.result
          (λ each. ap (λ (headers : ℕ → Option HeaderView). record r { headers = headers }) (fun_ext each) ∙ sym (ap (with_header image h) same))
          c.change.ensures.ok;
      mail =
          on_ok_weaker c.change.result
          (λ each. sym (others_untold c.args.site me image (receivers me (r.headers image) (r.watchers image)) o c.args.mail.now c.in_default.not-Notify))
          c.change.ensures.ok;
      err = on_err_weaker c.change.result (λ each. ap (λ (headers : ℕ → Option HeaderView). record r { headers = headers }) (fun_ext each)) c.change.ensures.err;
      unsent = on_err_weaker c.change.result (λ each. refl) c.change.ensures.err;
    }
