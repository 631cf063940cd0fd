-- Operations that are put one after another.
use Rattle.std.proofs.Common.{◌≡◌, ℕ, ◌+◌, List, [], ◌∷◌, ◌++◌, take, Some, sym, ap, ◌∙◌}
use Rattle.std.specs.List.{slice_get}
use Rattle.std.proofs.{lemmas.List.take_more, lemmas.Option.slice_get_within, lemmas.Option.get_or_from_slice_get}
use Rattle.zk_records.specs.declared.op.PartOp.{PartOp}

-- the parts that were put so far, and the next one
pub copied_next : (xs done : List PartOp) (j : ℕ) (x : PartOp) → done ≡ take j xs → slice_get xs j ≡ Some x → done ++ x ∷ [] ≡ take (j + 1) xs
copied_next xs done j x e got =
    let within = slice_get_within xs j x got in
    ap (λ z. z ++ x ∷ []) e ∙ ap (λ z. take j xs ++ z ∷ []) (sym (get_or_from_slice_get xs j x x got)) ∙ sym (take_more xs j x within)
