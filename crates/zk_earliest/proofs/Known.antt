-- The bodies of a layout or an operation that is known.
use Rattle.std.proofs.Common.{◌≡◌, ℕ, List, [], Option, sym, ap, subst, ◌∙◌}
use Rattle.zk_jute.specs.Item.{Item}
use Rattle.zk_jute.specs.Layout as jute
use Rattle.zk_records.specs.declared.op.Op.{Op}
use Rattle.zk_records.specs.declared.op.Op.TheVariants as ops
use Rattle.zk_asks.specs.{Parts.IsMulti, Forms.IsOf}
use Rattle.zk_asks.specs.Rows as asked
use Rattle.zk_answers.specs.Faults as answered
use Rattle.zk_answers.specs.{Layouts.IsBodyOf, declared.layout.Layout.Layout}
use Rattle.zk_answers.specs.declared.layout.Layout.TheVariants as layouts
use Rattle.zk_earliest.specs.Earliest.{Spells, IsEarliest, IsEarliestOf}

pub of_layout : (layout known : Layout) (bytes : List ℕ) (answer : Option ℕ) → layout ≡ known → IsEarliestOf known bytes answer → IsEarliestOf layout bytes answer
of_layout layout known bytes answer is e = subst (λ (l : Layout). IsEarliestOf l bytes answer) (sym is) e

pub of_record : (layout known : Layout) (l : jute.Layout) (bytes : List ℕ) (answer : Option ℕ) → layout ≡ known → IsEarliest (Spells (jute.IsValueOf l)) bytes answer → IsBodyOf known ≡ jute.IsValueOf l → IsEarliestOf layout bytes answer
of_record layout known l bytes answer is e same = of_layout layout known bytes answer is (subst (λ (P : List Item → Type 0). IsEarliest (Spells P) bytes answer) (sym same) e)

pub of_asked : (op known : Op) (l : jute.Layout) (bytes : List ℕ) (answer : Option ℕ) → op ≡ known → IsEarliest (Spells (jute.IsValueOf l)) bytes answer → asked.body_of known ≡ asked.Fields l → IsEarliestOf (layouts.Asked op) bytes answer
of_asked op known l bytes answer is e fields = subst (λ (b : asked.Body). IsEarliest (Spells (IsOf b)) bytes answer) (sym (ap asked.body_of is ∙ fields)) e

pub of_multi : (op : Op) (bytes : List ℕ) (answer : Option ℕ) → op ≡ ops.Multi → IsEarliest (Spells IsMulti) bytes answer → IsEarliestOf (layouts.Asked op) bytes answer
of_multi op bytes answer is e = subst (λ (op : Op). IsEarliestOf (layouts.Asked op) bytes answer) (sym is) e

pub of_answered : (op known : Op) (l : jute.Layout) (bytes : List ℕ) (answer : Option ℕ) → op ≡ known → IsEarliest (Spells (jute.IsValueOf l)) bytes answer → answered.body_shape known [] ≡ answered.Fields l → IsEarliestOf (layouts.Answered op) bytes answer
of_answered op known l bytes answer is e fields = subst (λ (s : answered.Shape). IsEarliest (Spells (answered.IsOfShape s)) bytes answer) (sym (ap (λ (op : Op). answered.body_shape op []) is ∙ fields)) e
