use Rattle.std.proofs.Common.{◌∙◌, subst, arith}
use Rattle.std.proofs.lemmas.List.{append-nil, get_or-set_same}
use Rattle.std.specs.Vec.{vec_capacity}
use Rattle.rbd_pages.specs.Places.{KnowsFree}
use Rattle.rbd_pages.specs.Sheets.{free_sheet}
use Rattle.rbd_pages.proofs.PlacesLemmas.{all_named, knows_more, knows_room, knows_taken, place_taken}
use Rattle.rbd_pages.proofs.SheetLemmas.{changed_set, changed_push}
use Rattle.rbd_pages.proofs.SheavesLemmas.{named_in-set, named_pushed}
use Rattle.rbd_pages.proofs.GrownLemmas.{most_push, most_set}
use Rattle.rbd_pages.proofs.sheaves.put_in.Goals as goal

pub index_mut-requires : goal.index_mut-requires
index_mut-requires c =
    let long = c.args.sheaves.now.ok.0 in
    let place = place_taken c.args.sheaves.now.items c.args.free.now.items c.pop.new.self.items _ c.in-Some.index c.requires.known c.in-Some.ensures.items in
    omega (arith, place.0)

pub returns-in-Some-clause-free : goal.returns-in-Some-clause-free
returns-in-Some-clause-free c =
    (place_taken c.args.sheaves.now.items c.args.free.now.items c.pop.new.self.items _ c.in-Some.index c.requires.known c.in-Some.ensures.items).1

pub returns-in-Some-clause-changed : goal.returns-in-Some-clause-changed
returns-in-Some-clause-changed c =
    changed_set c.args.sheaves.now.items c.in-Some.index c.args.sheaf
    (place_taken c.args.sheaves.now.items c.args.free.now.items c.pop.new.self.items _ c.in-Some.index c.requires.known c.in-Some.ensures.items).0

pub returns-in-Some-clause-sheaf : goal.returns-in-Some-clause-sheaf
returns-in-Some-clause-sheaf c =
    get_or-set_same c.args.sheaves.now.items c.in-Some.index c.args.sheaf free_sheet
    (place_taken c.args.sheaves.now.items c.args.free.now.items c.pop.new.self.items _ c.in-Some.index c.requires.known c.in-Some.ensures.items).0

pub returns-in-Some-clause-named : goal.returns-in-Some-clause-named
returns-in-Some-clause-named c = λ page.
    named_in-set c.args.sheaves.now.items c.in-Some.index c.args.sheaf page
    (place_taken c.args.sheaves.now.items c.args.free.now.items c.pop.new.self.items _ c.in-Some.index c.requires.known c.in-Some.ensures.items).0

pub returns-in-Some-clause-known : goal.returns-in-Some-clause-known
returns-in-Some-clause-known c =
    knows_room _ _ _ _
    (knows_taken c.args.sheaves.now.items c.args.free.now.items c.pop.new.self.items _ c.in-Some.index c.args.sheaf c.requires.known c.in-Some.ensures.items c.requires.sheaf)
    (let same = c.pop.ensures.capacity in omega arith)

pub returns-in-None-clause-changed : goal.returns-in-None-clause-changed
returns-in-None-clause-changed c =
    let long = c.args.sheaves.now.ok.0 in
    rw (c.push_reserved.ensures.items, c.len-index.ensures, long) (changed_push c.args.sheaves.now.items c.args.sheaf)

pub returns-in-None-clause-named : goal.returns-in-None-clause-named
returns-in-None-clause-named c = λ page.
    named_pushed c.args.sheaves.now.items _ c.args.sheaf c.len-index.result page
    (let long = c.args.sheaves.now.ok.0 in let is = c.len-index.ensures in omega arith) c.push_reserved.ensures.items

pub returns-in-None-clause-known : goal.returns-in-None-clause-known
returns-in-None-clause-known c =
    let none = c.in-None.ensures.items ∙ append-nil c.pop.new.self.items in
    let same = c.pop.ensures.capacity in
    let place = c.requires.place in
    let few = c.requires.few in
    knows_more c.args.sheaves.now.items c.push_reserved.new.self.items c.pop.new.self.items _ _ c.args.sheaf
    (subst (λ free. KnowsFree c.args.sheaves.now.items free (vec_capacity c.args.free.now)) none c.requires.known)
    c.push_reserved.ensures.items c.requires.sheaf (omega arith) (omega arith)

pub returns-in-Some-clause-most : goal.returns-in-Some-clause-most
returns-in-Some-clause-most c = most_set c.args.sheaves.now.items c.in-Some.index c.args.sheaf

pub returns-in-None-clause-most : goal.returns-in-None-clause-most
returns-in-None-clause-most c =
    let long = c.args.free.now.ok.0 in
    let gone = c.in-None.ensures.cases.0 in
    most_push c.args.sheaves.now.items c.push_reserved.new.self.items c.args.sheaf c.push_reserved.ensures.items c.requires.sheaf
    (all_named c.args.sheaves.now.items c.args.free.now.items _ c.requires.known (omega arith))
