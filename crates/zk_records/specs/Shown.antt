-- Borrowed access rights, as values of their payload's bytes.
use Rattle.std.specs.Prelude.{◌≡◌, ℕ, ℤ, List, [], ◌∷◌, Option, Some, None, Ok, Err, refl}
use Rattle.zk_jute.specs.{Held.Text, Item.Item, Item.AnInt, Item.AUstring, Shown.text_of, Shown.text_value}
use Rattle.zk_jute.specs.Layout.{◌then◌}
use Rattle.zk_jute.specs.Reading.{Read, ◌>>=◌, read_map, int_at, text_at, items_at}
use Rattle.zk_records.specs.{Held.Id, Held.Acl, Records.id, Records.acl}

-- the `Id` at a place
abbrev pub id_value : List ℕ → ℕ → Read Id
id_value src place = text_value src place >>= λ s. read_map (λ i. record { scheme = s.0; ident = i }) (text_value src s.1)

-- the access right at a place
abbrev pub acl_value : List ℕ → ℕ → Read Acl
acl_value src place = int_at src place >>= λ p. read_map (λ w. record { perms = p.0; who = w }) (id_value src p.1)

abbrev put_front : Item → Read (List Item) → Read (List Item)
put_front i read = read_map (λ others. i ∷ others) read

abbrev then_items : {A : Type 0} → (A → Item) → Read A → (ℕ → Read (List Item)) → Read (List Item)
then_items make read next = read_map make read >>= λ x. put_front x.0 (next x.1)

ident_shown : (t : Option (List ℕ)) (read : Read (Option (List ℕ))) →
    put_front (AUstring t) (then_items AUstring read (λ after. Ok ([], after))) ≡ read_map id.items (read_map
    (λ (i : Text). record { scheme = text_of t; ident = i }) (read_map text_of read))
ident_shown None (Ok (None, after)) = refl
ident_shown None (Ok (Some b, after)) = refl
ident_shown (Some a) (Ok (None, after)) = refl
ident_shown (Some a) (Ok (Some b, after)) = refl
ident_shown None (Err f) = refl
ident_shown (Some a) (Err f) = refl

id_shown : (read : Read (Option (List ℕ))) (next : ℕ → Read (Option (List ℕ)))
    → then_items AUstring read (λ after. then_items AUstring (next after)
    (λ after. Ok ([], after))) ≡ read_map id.items (read_map text_of read
    >>= λ s. read_map (λ (i : Text). record { scheme = s.0; ident = i }) (read_map text_of (next s.1)))
id_shown (Ok (t, after)) next = ident_shown t (next after)
id_shown (Err f) next = refl

pub id_is_value : (src : List ℕ) (place : ℕ) → items_at id.layout src place ≡ read_map id.items (id_value src place)
unfolding items_at ◌then◌
id_is_value src place = id_shown (text_at src place) (text_at src)

who_shown : (n : ℤ) (read : Read Id) →
    put_front (AnInt n) (read_map id.items read) ≡ read_map acl.items (read_map (λ (w : Id). record { perms = n; who = w }) read)
who_shown n (Ok x) = refl
who_shown n (Err f) = refl

acl_shown : (read : Read ℤ) (next : ℕ → Read (List Item)) (value : ℕ → Read Id) → ((after : ℕ) → next after ≡ read_map id.items (value after))
    → then_items AnInt read next ≡ read_map acl.items (read >>= λ p. read_map (λ (w : Id). record { perms = p.0; who = w }) (value p.1))
acl_shown (Ok (n, after)) next value is = rw is (who_shown n (value after))
acl_shown (Err f) next value is = refl

pub acl_is_value : (src : List ℕ) (place : ℕ) → items_at acl.layout src place ≡ read_map acl.items (acl_value src place)
unfolding items_at ◌then◌
acl_is_value src place = acl_shown (int_at src place) (items_at id.layout src) (id_value src) (id_is_value src)
