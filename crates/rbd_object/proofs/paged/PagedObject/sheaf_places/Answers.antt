use Rattle.std.proofs.Common.{◌≡◌, ap, length, arith}
use Rattle.rbd_object.specs.Paged.{Paged}
use Rattle.rbd_pages.specs.Sheets.{in_use}
use Rattle.rbd_pages.proofs.SheetLemmas.{in_use-le-length}
use Rattle.rbd_object.proofs.PagedLemmas.{sheaf_of_pages}
use Rattle.rbd_object.proofs.paged.PagedObject.sheaf_places.Goals as goal

pub returns-clause-places : goal.returns-clause-places
returns-clause-places c =
    let is = c.places.ensures.places in
    let places : length c.self.inside.sheaves.sheaves ≡ c.args.self.now.sheaf_places = ap (λ (x : Paged). x.sheaf_places) c.self.view_is in
    omega arith

pub returns-clause-used : goal.returns-clause-used
returns-clause-used c =
    let is = c.places.ensures.places in
    let sheaves : in_use c.self.inside.sheaves.sheaves ≡ c.args.self.now.sheaves = ap (λ (x : Paged). x.sheaves) c.self.view_is in
    let most = in_use-le-length c.self.inside.sheaves.sheaves in
    omega arith

pub returns-clause-some : goal.returns-clause-some
returns-clause-some c = λ some.
    let is = c.places.ensures.places in
    let pages : in_use c.self.inside.sheaves.sheets ≡ c.args.self.now.pages = ap (λ (x : Paged). x.pages) c.self.view_is in
    let there = sheaf_of_pages c.self.inside.sheaves.sheaves c.self.inside.sheaves.sheets c.places.ensures.stocked (omega arith) in
    omega arith
