-- The bodies of each layout.
use Rattle.std.specs.Prelude.{List, []}
use Rattle.zk_jute.specs.Item.{Boolean, Item}
use Rattle.zk_jute.specs.Layout.{End, One, ◌then◌, IsValueOf}
use Rattle.zk_records.specs.{Records.connect_request, Records.connect_response, Records.watcher_event, declared.op.Op.Op}
use Rattle.zk_asks.specs.Forms.{IsBody}
use Rattle.zk_answers.specs.{Faults.IsOfShape, Faults.body_shape, declared.layout.Layout.Layout}
use Rattle.zk_answers.specs.declared.layout.Layout.TheVariants as layouts

-- the body of a reply to a request without parts
abbrev pub IsReplyBody : Op → List Item → Type 0
IsReplyBody op items = IsOfShape (body_shape op []) items

abbrev pub IsBodyOf : Layout → List Item → Type 0
IsBodyOf layouts.Connect items = IsValueOf connect_request.layout items
IsBodyOf layouts.ConnectRo items = IsValueOf (connect_request.layout then One Boolean End) items
IsBodyOf layouts.Connected items = IsValueOf connect_response.layout items
IsBodyOf layouts.ConnectedRo items = IsValueOf (connect_response.layout then One Boolean End) items
IsBodyOf (layouts.Asked op) items = IsBody op items
IsBodyOf (layouts.Answered op) items = IsReplyBody op items
IsBodyOf layouts.Event items = IsValueOf watcher_event.layout items
