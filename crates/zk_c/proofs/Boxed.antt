-- A pointer that C keeps, whatever it leads to: the three functions that make and open one. Assumes `Logic`.
use Rattle.std.proofs.Common.{◌≡◌, ℕ, true≢false, List, [], ◌∷◌, ◌++◌, refl, sym, ap, ◌∙◌, subst, lit<}
use Rattle.std.specs.Prelude.{Option, Some, None, IsSome}
use mathlib.Core.List.{map}
use seplogic.Ra.Ura.{Ura}
use mir.Syntax.{Sym, Ty, Fn, Callee, Body, local, value_local, ty_ptr, w64, int, assign, place, field, copy as read, rv_opd, aggregate, seq, return}
use mir.Raw.{raw as bare}
use mir.Val.{Val, vptr, vstruct, vcons, vnil, of_list}
use base.Logic.{SProp, ent, emp, never, id⊢, fst∗}
use base.Fml.{Fml, ftrue, fsep}
use prog.Wp.{WpFn, Closed}
use prog.Model.{Model}
use types.Logic.{Logic, sem}
use contract.Monad.{fact, fact_i}
use contract.Running.{Running, MachineTables, tables}
use types.Kit.{Item, Goal, Step, step, ‵, raw, ◌⊛◌, prop, ◌$◌, ◌∵◌, !, qed, by, move, keep, drop, use0, split, fsplit, fjoin, fpack, fpick, rewrite, regoal, suffices}
use types.Part.{agg, sub, whole}
use types.Run.{stop, fld, of_opd, lit, no_more, and_then, returns, enter}
use types.ByLocal.{alloc_all, pass_all, free_all, look_at, get, get_in, sets}
use denote.Exit.{yes, under, hidden}
use denote.Memory.{lone}
use denote.Param.{layout}
use denote.RattleType.{RattleType, owns}
use denote.RawPtr.{Ptr, RawPtr, ptr_val, block_ptr, null_ptr, in_a_block}
use denote.Shadow.{shadow, makes_shadow}
use denote.Signature.{Slot, types_at, plain}
use denote.Steps.{nothing, heard}
use denote.Struct.Struct.{Struct, exits_of}
use denote.Triple.Clauses.{Ended, Clauses, closing}
use denote.Triple.End.{Kepts}
use denote.Triple.Entry.{alive}
use denote.Triple.Spec.{Meets}
use denote.Triple.Walked.{Stays, stay_dropped, walk_of, Goes-dropped}
use Rattle.core.proofs.alloc.Calls.{Goes-blank, handle_tells}
use Rattle.std.specs.Box.Ownership.{box_owns}
use Rattle.std.proofs.raw_atomic.Walks.{proved_at, leaves}
use Rattle.std_heap.specs.{contracts.Global.the_row as Z, declared.Global.Global, contracts.GlobalAllocator.TheImpl.ghosts}
use Rattle.std_heap.proofs.Global.TheLaws.{the_row_laws as LZ}
use Rattle.zk_c.specs.Owned.{owned}
use Rattle.zk_c.proofs.Values.{both, loose_good, loose_in, loose_out, Loose, al}

-- what differs between the structs: the name, the type that the pointer leads to, and the struct's own
pub record Kind : Type 2 where
  pub name : Sym
  pub held : RattleType
  pub row : RattleType
  pub at : row.Denot → Ptr
  pub value : row.Denot → Option held.Denot
  pub make : Ptr → Option held.Denot → row.Denot
  pub made : (p : Ptr) (v : Option held.Denot) → ◌≡◌ {A = Ptr × Option held.Denot} (at (make p v), value (make p v)) (p, v)

abbrev word_row : Sym → RattleType
word_row name = Struct (record { name = name; args = []; types = []; fields = RawPtr ∷ [] })

-- the machine value of a struct whose one field is a pointer, and what that field owns, which is nothing
abbrev word : Ptr → Val
word p = vstruct (vcons (ptr_val p) vnil)

abbrev word_own : Ptr → List Val → Fml
word_own p = (word_row []).own_val (p, tt)

word_told : (p : Ptr) (vs : List Val) → shadow (word_own p vs) → vs ≡ word p ∷ []
word_told p vs s = s.1.0 ∙ (λ i. vstruct (of_list (s.1.1.0 i ++ [])) ∷ [])

word_made : {M : Type 1} {𝓤 : Ura M} (𝓛 : Logic 𝓤) (p : Ptr) → ent 𝓤 (emp 𝓤) (sem 𝓛 (word_own p (word p ∷ [])))
word_made 𝓛 p = makes_shadow 𝓛 (word_own p (word p ∷ [])) (λ _. (tt, (tt, tt))) ((ptr_val p ∷ [], tt), (refl, (refl, tt)))

-- the value of an option that has one
value_of : {A : Type 0} (o : Option A) → IsSome o → (x : A) × (o ≡ Some x)
value_of (Some x) e = (x, refl)
value_of None e = absurd (true≢false (sym e))

-- what a contract says of the parameters, and a function's code
abbrev ended_of : (params : List (Slot 0)) → Kepts params → RattleType → Ended
ended_of params kept result = record { signature = record { lifetimes = 0; outlives = []; params = params; result = plain (λ κs. result) }; kept = kept }

abbrev body_of : List Body → Body
body_of [] = return
body_of (s ∷ ss) = seq s (body_of ss)

abbrev function_of : ℕ → List Ty → List Body → Fn
function_of params types body = record { lifetimes = 0; outlives = []; ty_params = []; givens = 0; params = params; locals = map (λ t. local t value_local) types; body = body_of body }

-- a local takes another's value, or the first field of it
abbrev takes : ℕ → ℕ → Body
takes n m = assign (place n []) (rv_opd (read (place m [])))

abbrev takes_first : ℕ → ℕ → Body
takes_first n m = assign (place n []) (rv_opd (read (place m (field 0 ∷ []))))

module _ (K : Kind) where
  -- the struct's row: it owns what the pointer leads to
  abbrev boxed : RattleType
  boxed = record (K.row) {
    mir = (word_row K.name).mir;
    own_val = λ d vs. fsep (word_own (K.at d) vs) (owned K.held (K.at d) (K.value d));
    exit = λ k. hidden (under (λ d. (K.at d, tt)) (exits_of k (RawPtr ∷ [])));
  }

  abbrev loose : RattleType
  loose = Loose K.held Z LZ ghosts

  -- what the three functions take and return, and what they do
  abbrev none_ended : Ended
  none_ended = ended_of [] tt boxed

  abbrev of_ended : Ended
  of_ended = ended_of (plain (λ κs. loose) ∷ []) (yes, tt) boxed

  abbrev open_ended : Ended
  open_ended = ended_of (plain (λ κs. boxed) ∷ plain (λ κs. Z) ∷ []) (yes, (yes, tt)) loose

  abbrev none_code : Fn
  none_code = function_of 0 (layout boxed ∷ []) (assign (place 0 []) (aggregate (int w64 0 ∷ [])) ∷ [])

  abbrev of_code : Fn
  of_code = function_of 1 (layout boxed ∷ layout loose ∷ ty_ptr ∷ ty_ptr ∷ []) (takes_first 2 1 ∷ takes 3 2 ∷ assign (place 0 []) (aggregate (read (place 3 []) ∷ [])) ∷ [])

  abbrev open_code : Fn
  open_code = function_of 2 (layout loose ∷ layout boxed ∷ layout Z ∷ ty_ptr ∷ ty_ptr ∷ [])
      (takes_first 3 1 ∷ takes 4 3 ∷ assign (place 0 []) (aggregate (read (place 4 []) ∷ read (place 2 []) ∷ [])) ∷ [])

  -- the struct is made of its pointer and what that leads to
  boxes : {M : Type 1} {𝓤 : Ura M} {𝓛 : Logic 𝓤} {C : Type 0} {Γ : List (Item 𝓤)} {G : Goal 𝓤 𝓛.H} → C → (p : Ptr) (v : Option K.held.Denot)
      → Step C 𝓛 (raw (fact 𝓤 (K.value (K.make p v) ≡ v)) ∷ ‵ (boxed.own_val (K.make p v) (word p ∷ [])) ∷ Γ) G (‵ (owned K.held p v) ∷ Γ) G
  boxes {𝓤 = 𝓤} {𝓛} t p v = step (λ s. let is = K.made p v in let Told : Type 0 = K.value (K.make p v) ≡ v in
      use0 𝓛 (‵ (word_own p (word p ∷ []))) (word_made 𝓛 p) $ fjoin t $
      rewrite t 0 (λ (q : Ptr × Option K.held.Denot). ‵ (fsep (word_own q.0 (word p ∷ [])) (owned K.held q.0 q.1))) (sym is) refl $
      use0 𝓛 (raw (fact 𝓤 Told)) (fact_i 𝓤 Told (emp 𝓤) (ap (λ (q : Ptr × Option K.held.Denot). q.1) is)) $ s)

  module _ {M : Type 1} {𝓤 : Ura M} (𝓛 : Logic 𝓤) (𝓜 : Model 𝓤 𝓛.H) (𝓡 : Running 𝓤 𝓛.H 𝓜) (self : Callee) where
    abbrev 𝓣 : MachineTables 𝓤 𝓛.H 𝓜
    𝓣 = tables 𝓤 𝓛.H 𝓜 𝓡 𝓡.env

    abbrev none_clauses : Clauses 𝓤 none_ended
    none_clauses = λ κs a. record { ghost = Unit {0}; requires = λ g. sem 𝓛 ftrue; ensures = λ g x end. fact 𝓤 (K.value x ≡ None) }

    abbrev of_clauses : Clauses 𝓤 of_ended
    of_clauses = λ κs a. record { ghost = Unit {0}; requires = λ g. sem 𝓛 ftrue; ensures = λ g x end. fact 𝓤 (K.value x ≡ Some a.0.value) }

    abbrev open_clauses : Clauses 𝓤 open_ended
    open_clauses = λ κs a. record { ghost = Unit {0}; requires = λ g. fact 𝓤 (IsSome (K.value a.0)); ensures = λ g x end. fact 𝓤 (K.value a.0 ≡ Some x.value) }

    pub none : Closed 𝓤 𝓛.H 𝓣.C 𝓣.Λ self none_code → Meets 𝓛 none_ended.signature (𝓣.C self) (closing 𝓛 none_ended none_clauses)
    none closed = let En = none_ended in let c = none_clauses in let hs : Stays En.signature.params En.kept = tt in
        proved_at 𝓛 En hs c 𝓜 𝓡 tt self none_code closed (λ z are. let Post : Val → SProp 𝓤 = (walk_of 𝓛 En hs c).post z in
        qed 𝓛 ((raw (alive 𝓛 En.signature z.0.0 z.0.1) ⊛ ‵ (owns (types_at En.signature.params z.0.0) z.0.3 z.0.4)) ∷ ‵ ftrue ∷ []) ∵ split ! $ keep ! (0 ∷ []) $
        enter ! 𝓣.C 𝓣.Λ none_code [] Post $ alloc_all ! (λ l. pass_all ! refl tt $
        sets ! (agg ! (and_then ! (lit ! tt) (no_more !))) refl (tt, (record { fits = lit< tt }, tt)) $
        returns ! (look_at ! 0 refl) $ free_all ! refl $
        -- [the tokens]
        nothing ! $ boxes ! null_ptr None $ nothing ! $ move ! (3 ∷ 0 ∷ 2 ∷ 1 ∷ []) $
        by ! (leaves 𝓛 En hs c z (word null_ptr) (K.make null_ptr None) tt tt)))

    -- it takes over what the box owned
    pub of : Closed 𝓤 𝓛.H 𝓣.C 𝓣.Λ self of_code → Meets 𝓛 of_ended.signature (𝓣.C self) (closing 𝓛 of_ended of_clauses)
    of closed = let En = of_ended in let c = of_clauses in let R = K.held in let slot : Slot 0 = plain (λ κs. loose) in
        let hs : Stays En.signature.params En.kept = (stay_dropped slot yes, tt) in
        proved_at 𝓛 En hs c 𝓜 𝓡 (Goes-blank 𝓛 0 slot yes (λ κs x f. tt), tt) self of_code closed (λ z are.
        let Post : Val → SProp 𝓤 = (walk_of 𝓛 En hs c).post z in let Run : List Val → SProp 𝓤 = λ ws. WpFn 𝓤 𝓛.H 𝓣.C 𝓣.Λ of_code ws Post in let v = z.0.3.0 in
        qed 𝓛 ((raw (alive 𝓛 En.signature z.0.0 z.0.1) ⊛ ‵ (owns (types_at En.signature.params z.0.0) z.0.3 z.0.4)) ∷ ‵ ftrue ∷ []) ∵ split ! $ move ! (1 ∷ []) $ fsplit ! $
        loose_out R Z LZ ghosts ! v z.0.4.0 (λ b o h e ws fits. let w : Val = both (vptr b o) h in let p = block_ptr b o in
        -- [the value with the right to free it; the handle; nothing; the tokens]
        keep ! (0 ∷ 3 ∷ []) $ fpack ! Global (λ alloc. box_owns (ghosts.dealloc_token alloc) R p v.value) v.alloc $
        suffices ! (Run (w ∷ [])) (subst (λ (us : List Val). ent 𝓤 (Run (w ∷ [])) (Run us)) (sym (λ i. ws i ++ [])) (id⊢ 𝓤 (Run (w ∷ [])))) $
        enter ! 𝓣.C 𝓣.Λ of_code (w ∷ []) Post $ alloc_all ! (λ l. pass_all ! refl (loose_good R Z LZ ghosts b o h fits, tt) $
        sets ! (of_opd ! (get_in ! (fld ! refl (stop !)) (sub ! 0 refl (whole !)))) refl (tt, tt) $
        sets ! (of_opd ! (get ! refl)) refl (tt, tt) $
        sets ! (agg ! (and_then ! (get ! refl) (no_more !))) refl (tt, (tt, tt)) $
        returns ! (look_at ! 0 refl) $ free_all ! refl $
        boxes ! p (Some v.value) $ nothing ! $ nothing ! $ fjoin ! $ move ! (3 ∷ 0 ∷ 2 ∷ 1 ∷ []) $
        by ! (leaves 𝓛 En hs c z (word p) (K.make p (Some v.value)) (tt, tt) (tt, tt)))))

    -- it hands over what the pointer owned
    pub into_loose : Closed 𝓤 𝓛.H 𝓣.C 𝓣.Λ self open_code → Meets 𝓛 open_ended.signature (𝓣.C self) (closing 𝓛 open_ended open_clauses)
    into_loose closed = let En = open_ended in let c = open_clauses in let R = K.held in let slot : Slot 0 = plain (λ κs. boxed) in let handle : Slot 0 = plain (λ κs. Z) in
        let hs : Stays En.signature.params En.kept = (stay_dropped slot yes, (stay_dropped handle yes, tt)) in
        proved_at 𝓛 En hs c 𝓜 𝓡 (Goes-blank 𝓛 0 slot yes (λ κs x f. tt), (Goes-dropped 𝓛 0 handle yes (λ κs x f. refl), tt)) self open_code closed (λ z are.
        let Post : Val → SProp 𝓤 = (walk_of 𝓛 En hs c).post z in let a = z.0.3 in let vss = z.0.4 in let at = K.at a.0 in let given = a.1.0 in
        let Asked : Type 0 = IsSome (K.value a.0) in let told = word_told at vss.0 are.0.0 in
        qed 𝓛 ((raw (alive 𝓛 En.signature z.0.0 z.0.1) ⊛ ‵ (owns (types_at En.signature.params z.0.0) a vss)) ∷ raw (fact 𝓤 Asked) ∷ []) ∵ move ! (1 ∷ []) $
        heard ! Asked (λ asked. let had = value_of (K.value a.0) asked in let v = had.0 in let held = had.1 in split ! $ move ! (1 ∷ []) $ fsplit ! $ fsplit ! $ drop ! $
        rewrite ! 0 (λ (s : Option R.Denot). ‵ (owned R at s)) held refl $
        fpick ! (λ alloc. in_a_block ! at (λ p. box_owns (ghosts.dealloc_token alloc) R p v) (fst∗ 𝓤 (never 𝓤) (sem 𝓛 (ghosts.dealloc_token alloc (bare (lone R.mir)) null_ptr))) (λ b o e.
        move ! (1 ∷ []) $ fsplit ! $ handle_tells (al R Z LZ ghosts) ! given vss.1.0 (λ h ea fits.
        let p = block_ptr b o in let w : Val = both (vptr b o) h in let x : loose.Denot = record { at = p; alloc = given; value = v } in let Told : Type 0 = K.value a.0 ≡ Some v in
        -- [the allocator; nothing; the value with the right to free it; the tokens]
        keep ! (2 ∷ 0 ∷ 3 ∷ []) $
        regoal ! (λ (us : List Val). prop (WpFn 𝓤 𝓛.H 𝓣.C 𝓣.Λ open_code us Post)) (λ i. (told ∙ ap (λ (q : Ptr). word q ∷ []) e) i ++ (ea i ++ [])) refl $
        enter ! 𝓣.C 𝓣.Λ open_code (word p ∷ h ∷ []) Post $ alloc_all ! (λ l. pass_all ! refl ((tt, (tt, tt)), (fits, tt)) $
        sets ! (of_opd ! (get_in ! (fld ! refl (stop !)) (sub ! 0 refl (whole !)))) refl (tt, tt) $
        sets ! (of_opd ! (get ! refl)) refl (tt, tt) $
        sets ! (agg ! (and_then ! (get ! refl) (and_then ! (get ! refl) (no_more !)))) refl (loose_good R Z LZ ghosts b o h fits) $
        returns ! (look_at ! 0 refl) $ free_all ! refl $
        loose_in R Z LZ ghosts ! b o h given v $
        use0 𝓛 (raw (fact 𝓤 Told)) (fact_i 𝓤 Told (emp 𝓤) held) $ nothing ! $ nothing ! $ fjoin ! $ nothing ! $ fjoin ! $ move ! (3 ∷ 0 ∷ 2 ∷ 1 ∷ []) $
        by ! (leaves 𝓛 En hs c z w x (tt, (tt, tt)) (tt, (tt, tt)))))))))
