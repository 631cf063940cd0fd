-- What is told of a frame whose fields are written.
use Rattle.std.proofs.Common.{◌≡◌, ℕ, ℤ, ◌-◌, ◌<◌, List, length, refl, sym, ap, subst, ◌∙◌, arith, inl, inr}
use Rattle.std.proofs.lemmas.Bool.Decides.{nat_tests}
use Rattle.zk_talk.specs.Held.{Message}
use Rattle.zk_fields.specs.{declared.field.Field.Field, Frames.AreWritten, declared.payload_fields.Opened.Opened}
use Rattle.zk_c.specs.{declared.read_answer.ReadAnswer.ReadAnswer, Answer.message_head, Judged.IsOfForm}
use Rattle.std.specs.Prelude.{pos, true, nat_lt, Option, Result, Ok, Err}
use Rattle.zk_jute.specs.{Reading.Read, Reading.told, Told.IsSurelyTold, declared.fault.Reason.Reason, declared.fault.ItemFault.ItemFault}
use Rattle.zk_c.specs.Read.{HasPlaces, head_read, refused_read, fields_before, head_of, number_of, int_there, long_there, message_fields, TellsMessage, TellsRefused, IsReadFault, Reads}

-- an answer that counts the fields that are written
pub tells_message : (m : Message) (before after : List Field) (count : ℕ) (answer : ReadAnswer) → AreWritten (message_fields m) before after count → answer ≡ head_read (length before) count (message_head m)
    → TellsMessage m before after answer
tells_message m before after count answer written told =
    let same : answer.count ≡ count = ap (λ (a : ReadAnswer). a.count) told in
    record {
      written = subst (AreWritten (message_fields m) before after) (sym same) written;
      told = subst (λ (n : ℕ). answer ≡ head_read (length before) n (message_head m)) (sym same) told;
    }

-- a fault is returned of a payload that is read as this
pub refused_as : {IsFault : ℕ → Reason → Type 0} {IsOpened : Option Opened → Type 0} {payload : List ℕ} {before after : List Field} {answer : ReadAnswer} {fault : ItemFault} {opened : Option Opened} →
    IsSurelyTold IsFault fault → IsOpened opened → TellsRefused opened payload fault before after answer → IsReadFault IsFault IsOpened payload before after answer
refused_as {fault = fault} {opened = opened} told is_opened tells = record { fault = fault; is = told.0; ample = told.1; opened = opened; is_opened = is_opened; tells = tells }

-- a payload that is read as a message is that one's alone
pub only_one : {A : Type 0} (message : A → Message) {Form Sent : A → Type 0} {payload_of : A → List ℕ} {payload : List ℕ} {before after : List Field} {answer : ReadAnswer} (x y : A) → IsOfForm Form Sent payload_of payload y →
    ((z : A) → Form z → Sent z → payload ≡ payload_of z → ◌≡◌ {A = Result A ItemFault} (Ok x) (Ok z)) → TellsMessage (message x) before after answer → TellsMessage (message y) before after answer
only_one {A} message {before = before} {after = after} {answer = answer} x y is only tells =
    let e = only y is.form is.sent is.is in let same : x ≡ y = cc in subst (λ (z : A). TellsMessage (message z) before after answer) same tells

pub read_ok : {A : Type 0} (message : A → Message) {Form Sent : A → Type 0} {payload_of : A → List ℕ} {IsFault : ℕ → Reason → Type 0} {IsOpened : Option Opened → Type 0} {payload : List ℕ} {before after : List Field} {answer : ReadAnswer} (x : A) →
    Form x × Sent x × (payload ≡ payload_of x) → ((y : A) → Form y → Sent y → payload ≡ payload_of y → ◌≡◌ {A = Result A ItemFault} (Ok x) (Ok y)) →
    (Sent x × HasPlaces (payload_of x) → TellsMessage (message x) before after answer) → HasPlaces payload → Reads message (IsOfForm Form Sent payload_of payload) IsFault IsOpened payload before after answer
read_ok message x found only tells small = record {
  only = λ y is. only_one message x y is only (tells (found.1, subst HasPlaces found.2 small));
  found = inl (x, record { form = found.0; sent = found.1; is = found.2 });
}

-- and one that has a fault is none's
pub read_err : {A : Type 0} (message : A → Message) {Form Sent : A → Type 0} {payload_of : A → List ℕ} {IsFault : ℕ → Reason → Type 0} {IsOpened : Option Opened → Type 0} {payload : List ℕ} {before after : List Field} {answer : ReadAnswer} {fault : ItemFault} {opened : Option Opened} →
    ((y : A) → Form y → Sent y → payload ≡ payload_of y → ◌≡◌ {A = Result A ItemFault} (Err fault) (Ok y)) → IsSurelyTold IsFault fault → IsOpened opened → TellsRefused opened payload fault before after answer →
    Reads message (IsOfForm Form Sent payload_of payload) IsFault IsOpened payload before after answer
read_err message only told is_opened tells = record { only = λ y is. let e = only y is.form is.sent is.is in absurd (cc); found = inr (refused_as told is_opened tells) }

pub tells_refused : (o : Option Opened) (payload : List ℕ) (fault : ItemFault) (before after : List Field) (count : ℕ) (head answer : ReadAnswer) → AreWritten (fields_before o payload fault.place) before after count → head ≡ head_of o payload → answer ≡ refused_read head fault count
    → TellsRefused o payload fault before after answer
tells_refused o payload fault before after count head answer written is told =
    let same : answer.count ≡ count = ap (λ (a : ReadAnswer). a.count) told in
    let told2 : answer ≡ refused_read (head_of o payload) fault count = told ∙ ap (λ (h : ReadAnswer). refused_read h fault count) is in
    record {
      written = subst (AreWritten (fields_before o payload fault.place) before after) (sym same) written;
      told = subst (λ (n : ℕ). answer ≡ refused_read (head_of o payload) fault n) (sym same) told2;
    }

-- ---- the numbers of a header

pub there : (read : Read ℤ) (n : ℤ) (after : ℕ) → read ≡ Ok (n, after) → n ≡ number_of read
there read n after e = rw e refl

pub not_there : (read : Read ℤ) (e : ItemFault) → told read ≡ Err e → pos 0 ≡ number_of read
not_there (Ok x) e is = absurd (cc)
not_there (Err f) e is = refl

pub no_int : (payload : List ℕ) (place : ℕ) → length payload < place → pos 0 ≡ int_there payload place
no_int payload place past =
    let test : nat_lt (length payload - place) 4 ≡ true = grind (arith, nat_tests) in
    rw test refl

pub no_long : (payload : List ℕ) (place : ℕ) → length payload < place → pos 0 ≡ long_there payload place
no_long payload place past =
    let test : nat_lt (length payload - place) 8 ≡ true = grind (arith, nat_tests) in
    rw test refl
