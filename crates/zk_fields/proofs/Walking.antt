-- What a walk writes, one thing after the other.
use Rattle.std.proofs.Common.{◌≡◌, ℕ, suc, ◌+◌, ◌-◌, ◌<◌, List, [], ◌∷◌, ◌++◌, refl, sym, ◌∙◌, arith}
use Rattle.std.specs.Prelude.{Option, Some, None, Ok, Err}
use Rattle.zk_jute.specs.{declared.fault.ItemFault.ItemFault, Item.Item, Item.ACount, Reading.Read, Reading.Fails, Reading.told}
use Rattle.zk_records.specs.declared.header.MultiHeader.{MultiHeader}
use Rattle.zk_fields.specs.{declared.field.Field.Field, declared.field.At.At, declared.walk.Walked.Walked, declared.payload_fields.Headed.Headed, Fields.Entry, Fields.Under, Fields.Head, Fields.named, Room.Takes, Heads.OfHead, Heads.headed_shape}
use Rattle.zk_fields.specs.Walks.{Met, none_met, item_met, met_then, times_met, list_met, walk, under, headed, Walks}
use Rattle.zk_fields.proofs.Rooms.{takes_nothing, takes_both}

abbrev stopped : At → Walked
stopped at = record { at = at; end = None }

abbrev ended : At → ℕ → Walked
ended at place = record { at = at; end = Some place }

pub walks_none : (at : At) (room : List Field) → Walks at room none_met (stopped at) room
unfolding Walks
walks_none at room = (takes_nothing at room, refl)

pub walks_nothing : (at : At) (room : List Field) (place : ℕ) → Walks at room (record { entries = []; end = Some place }) (ended at place) room
unfolding Walks
walks_nothing at room place = (takes_nothing at room, refl)

pub item_fails : (name : ℕ) (at : At) (room : List Field) (e : ItemFault) (read : Read (List Item)) → Fails e read → Walks at room (item_met name read) (stopped at) room
unfolding Fails
item_fails name at room e (Ok x) fails = absurd (cc)
item_fails name at room e (Err f) fails = walks_none at room

pub item_there : (name : ℕ) (at next : At) (room new : List Field) (read : Read (List Item)) (items : List Item) (es : List Entry) (end : ℕ) → read ≡ Ok (items, end) → es ≡ named name items → Takes at room es next new
    → Walks at room (item_met name read) (ended next end) new
unfolding Walks
item_there name at next room new read items es end e same takes = rw e (rw (← same) (takes, refl))

pub walks_stop : (at : At) (room new : List Field) (m : Met) (f : ℕ → Met) (first : Walked) → Walks at room m first new → first.end ≡ None → Walks at room (met_then m f) first new
unfolding Walks
walks_stop at room new m f first w none =
    let stop : m.end ≡ None = sym w.1 ∙ none in
    rw stop (w.0, none)

pub walks_both : (at : At) (room mid new : List Field) (m : Met) (f : ℕ → Met) (first next : Walked) (place : ℕ) → Walks at room m first mid → first.end ≡ Some place → Walks first.at mid (f place) next new → Walks at room (met_then m f) next new
unfolding Walks
walks_both at room mid new m f first next place w some v =
    let there : m.end ≡ Some place = sym w.1 ∙ some in
    rw there (takes_both at first.at next.at room mid new m.entries (f place).entries w.0 v.0, v.1)

-- entries of one field, and what is behind them
pub walks_on : (at mid : At) (room half new : List Field) (es : List Entry) (m : Met) (next : Walked) → Takes at room es mid half → Walks mid half m next new → Walks at room (record { entries = es ++ m.entries; end = m.end }) next new
unfolding Walks
walks_on at mid room half new es m next takes w = (takes_both at mid next.at room half new es m.entries takes w.0, w.1)

pub list_fails : (name : ℕ) (f : ℕ → Met) (at : At) (room : List Field) (e : ItemFault) (read : Read (Option ℕ)) → told read ≡ Err e → Walks at room (list_met name f read) (stopped at) room
list_fails name f at room e (Ok x) fails = absurd (cc)
list_fails name f at room e (Err g) fails = walks_none at room

pub list_null : (name : ℕ) (f : ℕ → Met) (at next : At) (room new : List Field) (read : Read (Option ℕ)) (after : ℕ) → read ≡ Ok (None, after) → Takes at room (Under name (ACount None) ∷ []) next new → Walks at room (list_met name f read) (ended next after) new
unfolding Walks
list_null name f at next room new read after e takes = rw e (takes, refl)

pub list_full : (name : ℕ) (f : ℕ → Met) (at mid : At) (room half new : List Field) (read : Read (Option ℕ)) (n after : ℕ) (next : Walked) → read ≡ Ok (Some n, after) → Takes at room (Under name (ACount (Some n)) ∷ []) mid half
    → Walks mid half (times_met f n after) next new → Walks at room (list_met name f read) next new
list_full name f at mid room half new read n after next e takes w = rw e (walks_on at mid room half new (Under name (ACount (Some n)) ∷ []) (times_met f n after) next takes w)

-- ---- the parts and the results of a multi

pub none_under : (at : At) (room : List Field) (h : MultiHeader) (m : Option Headed) (src : List ℕ) (place : ℕ) → m ≡ None → Walks at room (under h m src place) (stopped at) room
none_under at room h m src place e = rw e (walks_none at room)

pub walks_under : (at mid : At) (room half new : List Field) (h : MultiHeader) (m : Option Headed) (one : Headed) (src : List ℕ) (place : ℕ) (next : Walked) → m ≡ Some one → Takes at room (Head h ∷ []) mid half
    → Walks mid half (walk (headed_shape one) src place) next new → Walks at room (under h m src place) next new
walks_under at mid room half new h m one src place next e takes w = rw e (walks_on at mid room half new (Head h ∷ []) (walk (headed_shape one) src place) next takes w)

pub head_fails : (f : OfHead) (src : List ℕ) (at : At) (room : List Field) (e : ItemFault) (read : Read MultiHeader) → told read ≡ Err e → Walks at room (headed f src read) (stopped at) room
head_fails f src at room e (Ok x) fails = absurd (cc)
head_fails f src at room e (Err g) fails = walks_none at room

pub head_there : (f : OfHead) (src : List ℕ) (at : At) (room new : List Field) (read : Read MultiHeader) (h : MultiHeader) (place : ℕ) (m : Option Headed) (next : Walked) → read ≡ Ok (h, place) → m ≡ f h → Walks at room (under h m src place) next new
    → Walks at room (headed f src read) next new
head_there f src at room new read h place m next e is w = rw (e, ← is) w

-- ---- so many

pub next_times : (f : ℕ → Met) (count i place : ℕ) → i < count → times_met f (count - i) place ≡ met_then (f place) (times_met f (count - (i + 1)))
next_times f count i place h =
    let one : count - i ≡ suc (count - (i + 1)) = omega arith in
    rw one refl
