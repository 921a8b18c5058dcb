use Rattle.std.proofs.Common.{◌≡◌, ap, length, arith}
use Rattle.rbd_object.specs.Paged.{Paged}
use Rattle.rbd_pages.specs.Sheets.{in_use}
use Rattle.rbd_pages.proofs.SheetLemmas.{in_use-le-length}
use Rattle.rbd_object.proofs.paged.PagedObject.page_places.Goals as goal

pub returns-clause-places : goal.returns-clause-places
returns-clause-places c =
    let is = c.page_places.ensures in
    let places : length c.self.inside.sheaves.sheets ≡ c.args.self.now.page_places = ap (λ (x : Paged). x.page_places) c.self.view_is in
    omega arith

pub returns-clause-used : goal.returns-clause-used
returns-clause-used c =
    let is = c.page_places.ensures in
    let pages : in_use c.self.inside.sheaves.sheets ≡ c.args.self.now.pages = ap (λ (x : Paged). x.pages) c.self.view_is in
    let most = in_use-le-length c.self.inside.sheaves.sheets in
    omega arith
