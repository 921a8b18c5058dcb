use Rattle.std.proofs.Common.{sym, ◌∙◌, subst}
use Rattle.rbd_values.specs.Name.{IsName}
use Rattle.rbd_script.proofs.SessionNames.{name_of_session}
use Rattle.rbd_script.proofs.session.new_session_of.Goals as goal

pub unwrap-requires : goal.unwrap-requires
unwrap-requires c = c.parse.ensures.valid.1 (subst IsName (sym c.in_ok-text.ensures) (name_of_session c.args.token.now (sym c.is_session_name.ensures ∙ c.if-not-is_session_name.false)))
