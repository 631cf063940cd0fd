-- Items of a record's layout are some record's.
use Rattle.std.proofs.Common.{◌≡◌, subst, ◌∙◌, refl}
use Rattle.std.specs.Prelude.{ℤ, Bool}
use Rattle.zk_jute.specs.{Held.Text, Held.Blob, Held.Vector, Layout.Unfolds}
use Rattle.zk_records.specs.{Held.Id, Held.Acl, declared.stat.Stat.Stat}
use Rattle.zk_jute.specs.Wired.{Wired, ◌and◌, int, long, boolean, ustring, buffer, vector}
use Rattle.zk_jute.proofs.Covers.{Covers, field, joined, int_covered, long_covered, bool_covered, text_covered, blob_covered, vector_covered}
use Rattle.zk_records.specs.Made as made
use Rattle.zk_records.specs.Records.{id, acl, stat, connect_request, connect_response, request_header, reply_header, multi_header, watcher_event, create_ask, delete_ask, watch_ask, create_ttl_ask, watches_ask, add_watch_ask, reconfig_ask, set_data_ask, path_ask, set_acl_ask, auth_ask, set_watches_ask, check_ask, data_body, acl_body, children_body, create_body}

-- a type of value whose layout's items are all some value's
record Covering (X : Type 0) : Type 0 where
  of : Wired X
  covers : Covers of

both_covered : {X Y : Type 0} (v : Wired X) (w : Wired Y) → Covers v → Covers w → Covers (v and w)
both_covered v w p q items u =
    let a = field v p w.layout items u in
    let b = q a.1 a.2 in
    ((a.0, b.0), joined (v.items a.0) a.1 (w.items b.0) items b.1 a.3)

infixr 20 ◌both◌
abbrev ◌both◌ : {X Y : Type 0} → Covering X → Covering Y → Covering (X × Y)
v both w = record { of = v.of and w.of; covers = both_covered v.of w.of v.covers w.covers }

-- a record that is made of a value with its layout and its items
abbrev Makes : {X Y : Type 0} → Wired X → Wired Y → (X → Y) → Type 0
Makes {X} v w make = (w.layout ≡ v.layout) × ((x : X) → w.items (make x) ≡ v.items x)

by : {X Y : Type 0} (v : Covering X) (w : Wired Y) (make : X → Y) → Makes v.of w make → Covers w
by v w make m items u =
    let x = v.covers items (subst (λ l. Unfolds l items) m.0 u) in
    (make x.0, m.1 x.0 ∙ x.1)

abbrev an_int : Covering ℤ
an_int = record { of = int; covers = int_covered }

abbrev a_long : Covering ℤ
a_long = record { of = long; covers = long_covered }

abbrev a_boolean : Covering Bool
a_boolean = record { of = boolean; covers = bool_covered }

abbrev a_text : Covering Text
a_text = record { of = ustring; covers = text_covered }

abbrev a_blob : Covering Blob
a_blob = record { of = buffer; covers = blob_covered }

abbrev texts : Covering (Vector Text)
texts = record { of = vector ustring; covers = vector_covered ustring text_covered }

pub id_covered : Covers id
id_covered = by (a_text both a_text) id made.id (refl, λ x. refl)

abbrev an_id : Covering Id
an_id = record { of = id; covers = id_covered }

pub acl_covered : Covers acl
acl_covered = by (an_int both an_id) acl made.acl (refl, λ x. refl)

abbrev rights : Covering (Vector Acl)
rights = record { of = vector acl; covers = vector_covered acl acl_covered }

pub stat_covered : Covers stat
stat_covered = by (a_long both a_long both a_long both a_long both an_int both an_int both an_int both a_long both an_int both an_int both a_long) stat made.stat (refl, λ x. refl)

abbrev a_stat : Covering Stat
a_stat = record { of = stat; covers = stat_covered }

pub connect_request_covered : Covers connect_request
connect_request_covered = by (an_int both a_long both an_int both a_long both a_blob) connect_request made.connect_request (refl, λ x. refl)

pub connect_response_covered : Covers connect_response
connect_response_covered = by (an_int both an_int both a_long both a_blob) connect_response made.connect_response (refl, λ x. refl)

pub request_header_covered : Covers request_header
request_header_covered = by (an_int both an_int) request_header made.request_header (refl, λ x. refl)

pub reply_header_covered : Covers reply_header
reply_header_covered = by (an_int both a_long both an_int) reply_header made.reply_header (refl, λ x. refl)

pub multi_header_covered : Covers multi_header
multi_header_covered = by (an_int both a_boolean both an_int) multi_header made.multi_header (refl, λ x. refl)

pub watcher_event_covered : Covers watcher_event
watcher_event_covered = by (an_int both an_int both a_text) watcher_event made.watcher_event (refl, λ x. refl)

pub create_ask_covered : Covers create_ask
create_ask_covered = by (a_text both a_blob both rights both an_int) create_ask made.create_ask (refl, λ x. refl)

pub delete_ask_covered : Covers delete_ask
delete_ask_covered = by (a_text both an_int) delete_ask made.delete_ask (refl, λ x. refl)

pub set_data_ask_covered : Covers set_data_ask
set_data_ask_covered = by (a_text both a_blob both an_int) set_data_ask made.set_data_ask (refl, λ x. refl)

pub set_acl_ask_covered : Covers set_acl_ask
set_acl_ask_covered = by (a_text both rights both an_int) set_acl_ask made.set_acl_ask (refl, λ x. refl)

pub check_ask_covered : Covers check_ask
check_ask_covered = by (a_text both an_int) check_ask made.check_ask (refl, λ x. refl)

pub watch_ask_covered : Covers watch_ask
watch_ask_covered = by (a_text both a_boolean) watch_ask made.watch_ask (refl, λ x. refl)

pub path_ask_covered : Covers path_ask
path_ask_covered = by a_text path_ask made.path_ask (refl, λ x. refl)

pub auth_ask_covered : Covers auth_ask
auth_ask_covered = by (an_int both a_text both a_blob) auth_ask made.auth_ask (refl, λ x. refl)

pub set_watches_ask_covered : Covers set_watches_ask
set_watches_ask_covered = by (a_long both texts both texts both texts) set_watches_ask made.set_watches_ask (refl, λ x. refl)

pub data_body_covered : Covers data_body
data_body_covered = by (a_blob both a_stat) data_body made.data_body (refl, λ x. refl)

pub acl_body_covered : Covers acl_body
acl_body_covered = by (rights both a_stat) acl_body made.acl_body (refl, λ x. refl)

pub children_body_covered : Covers children_body
children_body_covered = by (texts both a_stat) children_body made.children_body (refl, λ x. refl)

pub create_body_covered : Covers create_body
create_body_covered = by (a_text both a_stat) create_body made.create_body (refl, λ x. refl)

pub add_watch_ask_covered : Covers add_watch_ask
add_watch_ask_covered = by (a_text both an_int) add_watch_ask made.add_watch_ask (refl, λ x. refl)

pub create_ttl_ask_covered : Covers create_ttl_ask
create_ttl_ask_covered = by (a_text both a_blob both rights both an_int both a_long) create_ttl_ask made.create_ttl_ask (refl, λ x. refl)

pub watches_ask_covered : Covers watches_ask
watches_ask_covered = by (a_text both an_int) watches_ask made.watches_ask (refl, λ x. refl)

pub reconfig_ask_covered : Covers reconfig_ask
reconfig_ask_covered = by (a_text both a_text both a_text both a_long) reconfig_ask made.reconfig_ask (refl, λ x. refl)
