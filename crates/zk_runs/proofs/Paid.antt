-- What is due is written, and what a run that migrates has read and written then.
use Rattle.std.proofs.Common.{◌≡◌, ℕ, List, [], ◌++◌, take, drop, Bool, Option, None, Some, inl, inr, sym, ap, ◌∙◌, subst, append-nil}
use Rattle.std.specs.Io.KnownBytes.{Appends, Consumes, IsAtEnd}
use Rattle.zk_talk.specs.declared.limits.Limits.{Limits}
use Rattle.zk_runs.specs.declared.migrate.Migrated.{Migrated}
use Rattle.zk_recordings.specs.{declared.parts.DamageAt.DamageAt, Reader.ReaderState, Recording.Recording, Recording.Spells, Recording.damage_of, Reading.IsAt}
use Rattle.zk_listings.specs.Outcome.{IsBroken, HasGrownIn}
use Rattle.zk_runs.specs.Migrating.{migrated, HasMoved, HasMovedTo, HasMovedBy, HasMigrated, HasMigratedSoFar, HasBegunMigrating, answered}
use Rattle.zk_listings.proofs.{Bytes.Appends-then, Found.reads as reads-by, Found.grown-further, Feeding.grown-whole}
use Rattle.zk_runs.proofs.Moves.{HasMovedIn, moved-further, moved-before}

-- ---- what is due is written

-- what is written of it so far, and what is due
record Owes (options : Limits) (x due : List ℕ) (before now : Option (List ℕ)) : Type 0 where
  pub recording : Recording
  pub spells : Spells x recording
  pub written : List ℕ
  pub is : migrated options recording ≡ written ++ due
  pub appended : Appends before now written

owes : (options : Limits) (x : List ℕ) (head_whole : Bool) (due begun : List ℕ) (s : ReaderState) (before now : Option (List ℕ)) (found : Option DamageAt) →
    HasMovedBy options x head_whole due begun s before now found → Owes options x due before now
owes options x head_whole due begun s before now None t = record { recording = t.recording; spells = t.at.spells; written = t.written; is = t.is; appended = t.appended }
owes options x head_whole due begun s before now (Some d) t = record { recording = t.recording; spells = t.spells; written = t.written; is = t.is; appended = t.appended }

module _ (options : Limits) (x : List ℕ) (before mid now : Option (List ℕ)) (due : List ℕ) where
  pub paid : (head_whole : Bool) (begun : List ℕ) (s : ReaderState) → HasMoved options x head_whole due begun s before mid → Appends mid now due → HasMoved options x head_whole [] begun s before now
  paid head_whole begun s t p = record {
    recording = t.recording;
    at = t.at;
    head_is = t.head_is;
    begun_is = t.begun_is;
    written = t.written ++ due;
    is = t.is ∙ sym (append-nil (t.written ++ due));
    appended = Appends-then before mid now t.written due t.appended p;
  }

  pub paid-part : (head_whole : Bool) (begun : List ℕ) (s : ReaderState) (found : Option DamageAt) → HasMovedBy options x head_whole due begun s before mid found → HasGrownIn mid now due →
      HasMovedIn options x before now
  paid-part head_whole begun s found t grown =
      let o = owes options x head_whole due begun s before mid found t in
      record { recording = o.recording; spells = o.spells; written = subst (HasGrownIn before now) (sym o.is) (grown-further before mid now o.written due o.appended grown) }

-- what is due is no longer held
pub let-go : (options : Limits) (x : List ℕ) (before now : Option (List ℕ)) (head_whole whole_now : Bool) (s state : ReaderState) (begun held : List ℕ) (mark : ℕ) →
    whole_now ≡ head_whole → state ≡ s → mark ≡ 0 → held ≡ begun → HasMoved options x head_whole [] begun s before now →
    HasMoved options x whole_now (take mark held) (drop mark held) state before now
let-go options x before now head_whole whole_now s state begun held mark w r m h t =
    subst (λ n. HasMoved options x whole_now (take n held) (drop n held) state before now) (sym m)
    (subst (λ l. HasMoved options x whole_now [] l state before now) (sym h)
    (subst (λ q. HasMoved options x whole_now [] begun q before now) (sym r)
    (subst (λ b. HasMoved options x b [] begun s before now) (sym w) t)))

-- ---- what a run has read and written

module _ (options : Limits) (unread unread_now : Option (List ℕ)) (x : List ℕ) (before now : Option (List ℕ)) (p : Consumes unread unread_now x) where
  pub begun-in : HasMovedIn options x before now → HasBegunMigrating options unread unread_now before now
  begun-in t = record { bytes = x; recording = t.recording; reads = reads-by unread unread_now x t.recording p t.spells; written = t.written }

  module _ (head_whole : Bool) (due begun : List ℕ) (none : due ≡ []) (s : ReaderState) (t : HasMoved options x head_whole due begun s before now) where
    all-written : Appends before now (migrated options t.recording)
    all-written = subst (Appends before now) (sym (append-nil t.written) ∙ ap (λ l. t.written ++ l) (sym none) ∙ sym t.is) t.appended

    pub migrated-so_far : (IsBroken x t.recording → ⊥) → HasMigratedSoFar options unread unread_now before now
    migrated-so_far unbroken = record { bytes = x; recording = t.recording; reads = reads-by unread unread_now x t.recording p t.at.spells; unbroken = unbroken; written = all-written }

    pub begun-so_far : HasBegunMigrating options unread unread_now before now
    begun-so_far = record {
      bytes = x;
      recording = t.recording;
      reads = reads-by unread unread_now x t.recording p t.at.spells;
      written = grown-whole before now (migrated options t.recording) all-written;
    }

    pub migrated-at_end : (damage : Option DamageAt) → IsAtEnd unread_now → ((y : List ℕ) (r : Recording) → IsAt s y r → damage_of r ≡ damage) → (answer : Migrated) → answer ≡ answered damage →
        HasMigrated options unread unread_now before now answer
    migrated-at_end damage end is answer e = record {
      bytes = x;
      recording = t.recording;
      reads = reads-by unread unread_now x t.recording p t.at.spells;
      answer_is = e ∙ ap answered (sym (is x t.recording t.at));
      written = all-written;
      enough = inl end;
    }

-- after one more block that was read, and of which nothing is written
pub begun-before : (options : Limits) (unread unread_now : Option (List ℕ)) (x block : List ℕ) (head_whole : Bool) (due begun : List ℕ) (s : ReaderState) (before now : Option (List ℕ)) →
    Consumes unread unread_now (x ++ block) → HasMoved options x head_whole due begun s before now → HasBegunMigrating options unread unread_now before now
begun-before options unread unread_now x block head_whole due begun s before now p t =
    begun-in options unread unread_now (x ++ block) before now p (moved-further options x block t.recording before now t.at.spells (moved-before options x head_whole due begun s before now t))

pub migrated-damaged : (options : Limits) (unread unread_now : Option (List ℕ)) (x : List ℕ) (d : DamageAt) (due : List ℕ) (before mid now : Option (List ℕ)) →
    Consumes unread unread_now x → HasMovedTo options x d due before mid → Appends mid now due → (answer : Migrated) → answer ≡ answered (Some d) → HasMigrated options unread unread_now before now answer
migrated-damaged options unread unread_now x d due before mid now p t q answer e = record {
  bytes = x;
  recording = t.recording;
  reads = reads-by unread unread_now x t.recording p t.spells;
  answer_is = e ∙ ap answered (sym t.decided.damage);
  written = subst (Appends before now) (sym t.is) (Appends-then before mid now t.written due t.appended q);
  enough = inr (d, t.decided);
}
