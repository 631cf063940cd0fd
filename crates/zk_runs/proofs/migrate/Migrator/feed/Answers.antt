use Rattle.std.proofs.Common.{◌≡◌, ℕ, ◌+◌, List, ◌++◌, take, drop, length, length-drop, Bool, Option, sym, ap, ◌∙◌, subst, append_assoc, arith}
use Rattle.std.proofs.Math.Seq.{take-add}
use Rattle.zk_talk.specs.declared.limits.Limits.{Limits}
use Rattle.zk_recordings.specs.{declared.parts.DamageAt.DamageAt, Reader.ReaderState, Reading.IsAt, Reading.IsDecidedBy, Recording.Recording, Recording.Spells}
use Rattle.zk_recordings.proofs.Stages.{damaged-more}
use Rattle.zk_listings.proofs.Stops.{rejoined}
use Rattle.zk_runs.specs.Migrating.{migrated_at, HasMoved, HasMovedTo, HasMigratedTo, due_of, begun_in}
use Rattle.zk_runs.proofs.migrate.Migrator.feed.Goals as goal

joined : (x block : List ℕ) (at' used : ℕ) → (x ++ take at' block) ++ take used (drop at' block) ≡ x ++ take (at' + used) block
joined x block at' used = append_assoc x (take at' block) (take used (drop at' block)) ∙ ap (λ l. x ++ l) (sym (take-add at' used block))

found-damage : (options : Limits) (x block : List ℕ) (n : ℕ) (d : DamageAt) (head_whole : Bool) (due begun : List ℕ) (s : ReaderState) (before now : Option (List ℕ)) →
    HasMoved options (x ++ take n block) head_whole due begun s before now → ((y : List ℕ) (r : Recording) → IsAt s y r → IsDecidedBy d y r) → HasMovedTo options (x ++ block) d due before now
found-damage options x block n d head_whole due begun s before now t decided =
    let m = damaged-more d (x ++ take n block) (drop n block) t.recording t.at.spells (decided _ t.recording t.at) in
    record {
      recording = m.0;
      spells = subst (λ y. Spells y m.0) (rejoined x block n) m.1;
      decided = subst (λ y. IsDecidedBy d y m.0) (rejoined x block n) m.2;
      written = t.written;
      is = ap (migrated_at options) m.3 ∙ t.is;
      appended = t.appended;
    }

pub returns-in-Some-clause-goes_on : goal.returns-in-Some-clause-goes_on
returns-in-Some-clause-goes_on c = λ x before now t.
    let block = c.args.block.now in
    let at' = c.loop-at.at in
    let used = c.in_ok-at.field-0 in
    let new = c.advance_far.new.self in
    let moved = subst (λ y. HasMigratedTo c.args.limits y before now new) (joined x block at' used)
    (subst (λ b. HasMigratedTo c.args.limits ((x ++ take at' block) ++ take used b) before now new) c.rest.ensures
    (c.in_ok-at.ensures.goes_on (x ++ take at' block) before now (c.loop-at.invariant.moved x before now t))) in
    found-damage c.args.limits x block (at' + used) c.in-Some.damage new.headed (due_of new) (begun_in new) new.reader before now moved c.in-Some.ensures

pub loop-at-preserved : goal.loop-at-preserved
loop-at-preserved c =
    let at' = c.loop-at.at in
    let block = c.args.block.now in
    let used = c.in_ok-at.field-0 in
    let long : length c.rest.result.now ≡ length (drop at' block) = ap length c.rest.ensures in
    record {
      within = omega (arith, c.in_ok-at.ensures.used, long, length-drop at' block);
      marked = c.in_ok-at.ensures.marked;
      place = omega (arith, c.in_ok-at.ensures.place, c.loop-at.invariant.place);
      moved = λ x before now t.
          let new = c.advance_far.new.self in
          subst (λ y. HasMigratedTo c.args.limits y before now new) (joined x block at' used)
          (subst (λ b. HasMigratedTo c.args.limits ((x ++ take at' block) ++ take used b) before now new) c.rest.ensures
          (c.in_ok-at.ensures.goes_on (x ++ take at' block) before now (c.loop-at.invariant.moved x before now t)));
      undamaged = λ _. c.in_default.ensures;
    }
