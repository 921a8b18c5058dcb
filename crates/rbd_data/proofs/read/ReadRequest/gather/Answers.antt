use Rattle.std.proofs.Common.{◌∙◌, [], ap}
use Rattle.rbd_layout.proofs.Listed.{pieces_of_alone}
use Rattle.rbd_pieces.specs.Gather.{gather}
use Rattle.rbd_data.proofs.Looks.{some_bytes, some_pieces, ends_early}
use Rattle.rbd_data.proofs.read.ReadRequest.gather.Goals as goal

pub pieces-requires-clause-end : goal.pieces-requires-clause-end
pieces-requires-clause-end c = ends_early c.args.header.now c.args.self.now.snap c.args.view.now c.args.self.now.extent c.requires.form c.requires.view c.requires.fits

pub new-requires : goal.new-requires
new-requires c =
    some_pieces c.args.header.now.layout c.args.self.now.extent c.in_ok-listed.listed.items c.in_ok-listed.ensures.pieces
    (some_bytes c.args.self.now.extent c.args.view.now.size c.requires.fits)

pub returns : goal.returns
returns c = λ next.
    c.new.ensures next
    ∙ ap (λ pieces. gather c.args.self.now.site c.args.image c.args.view.now.snap pieces [] next)
    (pieces_of_alone c.args.header.now.layout c.requires.form.layout c.args.self.now.extent c.in_ok-listed.listed.items c.in_ok-listed.ensures.pieces)
