-- What follows a header: its fault is unique and excludes each form, and no form begins another.
use Rattle.std.proofs.Common.{◌≡◌, ℕ, List, [], ◌++◌, length, sym, ap, refl, ◌∙◌}
use Rattle.std.proofs.lemmas.List.{append-nil}
use Rattle.zk_jute.specs.{declared.fault.Reason.Reason, Item.Item, Item.bytes_of}
use Rattle.zk_jute.proofs.{Layouts.bytes_only, Decided.one_fault, Sequels.Same, Sequels.excluded}
use Rattle.zk_answers.specs.{Held.PartDone, Results.multi_items}
use Rattle.zk_answers.specs.Faults.{Shape, Fields, Results, IsOfShape, IsShapeFault, IsRestFault, in_shape, past_shape}
use Rattle.zk_answers.proofs.Results.{done_unique, done_excludes, multi_only}

shape_unique : (shape : Shape) (bytes : List ℕ) (p q : ℕ) (r s : Reason) → IsShapeFault shape bytes p r → IsShapeFault shape bytes q s → Same p r q s
shape_unique (Fields l) bytes p q r s f g = one_fault l bytes p q r s f g
shape_unique (Results parts) bytes p q r s f g = done_unique parts bytes p q r s f g

pub shape_excludes : (shape : Shape) (items : List Item) (bytes more : List ℕ) (p : ℕ) (r : Reason) → IsOfShape shape items → bytes ≡ bytes_of items ++ more → IsShapeFault shape bytes p r → ⊥
shape_excludes (Fields l) items bytes more p r v e f = excluded l items bytes more p r v e f
shape_excludes (Results parts) items bytes more p r v e f = done_excludes parts v.0 v.1 v.2 bytes more p r (e ∙ ap (λ (i : List Item). bytes_of i ++ more) v.3) f

pub shape_only : (shape : Shape) (a b : List Item) (x y : List ℕ) → IsOfShape shape a → IsOfShape shape b → bytes_of a ++ x ≡ bytes_of b ++ y → (a ≡ b) × (x ≡ y)
shape_only (Fields l) a b x y v w e = bytes_only l a b x y v w e
shape_only (Results parts) a b x y v w e =
    let same = multi_only parts v.0 w.0 v.1 w.1 v.2 w.2 x y (ap (λ (i : List Item). bytes_of i ++ x) (sym v.3) ∙ e ∙ ap (λ (i : List Item). bytes_of i ++ y) w.3) in
    (v.3 ∙ ap (λ (ds : List PartDone). multi_items ds) same.0 ∙ sym w.3, same.1)

pub rest_unique : (shape : Shape) (bytes : List ℕ) (p q : ℕ) (r s : Reason) → IsRestFault shape bytes p r → IsRestFault shape bytes q s → Same p r q s
rest_unique shape bytes p q r s (in_shape _ _ _ f) (in_shape _ _ _ g) = shape_unique shape bytes p q r s f g
rest_unique shape bytes p q r s (in_shape _ _ _ f) (past_shape _ more whole v e some) = absurd (shape_excludes shape whole bytes more p r v e f)
rest_unique shape bytes p q r s (past_shape _ more whole v e some) (in_shape _ _ _ g) = absurd (shape_excludes shape whole bytes more q s v e g)
rest_unique shape bytes p q r s (past_shape _ more whole v e some) (past_shape _ other all w d _) =
    let same = shape_only shape whole all more other v w (sym e ∙ d) in
    (ap (λ (i : List Item). length (bytes_of i)) same.0, refl)

pub rest_excludes : (shape : Shape) (items : List Item) (p : ℕ) (r : Reason) → IsOfShape shape items → IsRestFault shape (bytes_of items) p r → ⊥
rest_excludes shape items p r v (in_shape _ _ _ f) = shape_excludes shape items (bytes_of items) [] p r v (sym (append-nil (bytes_of items))) f
rest_excludes shape items p r v (past_shape _ more whole w e some) = some (shape_only shape whole items more [] w v (sym e ∙ sym (append-nil (bytes_of items)))).1
