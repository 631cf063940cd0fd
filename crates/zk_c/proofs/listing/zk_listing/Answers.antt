use Rattle.std.proofs.Common.{rules, ◌≡◌, ℕ, List, Some, subst}
use Rattle.zk_c.specs.{Handle.TellsText, Listing.IsListed, Listing.told}
use Rattle.zk_c.proofs.Texts.{told_of}
use Rattle.zk_c.proofs.listing.zk_listing.Goals as goal

pub returns-in-Ok-Some-clause-listing : goal.returns-in-Ok-Some-clause-listing
returns-in-Ok-Some-clause-listing c = λ h cut p is in_range.
    let text = c.in-Ok-Some.text in
    let some : c.in-Ok-Some.field-0 ≡ Some text = search rules in
    let is_listed : IsListed c.in-Some.limits c.args.pieces.now c.args.bytes.now text.items = told_of _ _ c.in-Ok-Some.field-0 text c.in-Ok-Some.ensures some in
    told c.in-Some.limits text.items c.in-Some.ensures.value (is_listed.is h cut)
    (subst (λ (xs : List ℕ). TellsText xs c.args.out.now c.put.new.out c.put.result) c.deref.ensures.value c.put.ensures.told)
