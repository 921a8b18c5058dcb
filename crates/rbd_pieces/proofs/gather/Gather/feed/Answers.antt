use Rattle.std.proofs.Common.{◌≡◌, ◌++◌, sym, subst}
use Rattle.rbd_pieces.specs.Gather.{gather, on_bytes, Gathers}
use Rattle.rbd_pieces.proofs.gather.Gather.feed.Goals as goal

pub returns-in-Ok : goal.returns-in-Ok
returns-in-Ok c = λ next.
    let g = c.args.self.now in
    let shown = subst (λ parts. on_bytes parts (λ more. gather g.site g.image g.snap g.pieces.items (g.bytes.items ++ more) next) c.args.answer.now ≡ gather g.site g.image g.snap g.pieces.items c.read_into.new.bytes.items next)
    c.as_slice.ensures (c.in-Ok.ensures (λ read. gather g.site g.image g.snap g.pieces.items read next)) in
    subst (λ to. Gathers next to c.go_on.result c.go_on.new.self) (sym shown) (c.go_on.ensures next)

pub returns-in-Err : goal.returns-in-Err
returns-in-Err c = λ next.
    let g = c.args.self.now in
    rw (sym c.as_slice.ensures) (c.in-Err.ensures (λ read. gather g.site g.image g.snap g.pieces.items read next))
