use Rattle.std.proofs.Common.{ℕ, subst}
use Rattle.std.specs.Prelude.{[], ◌∷◌, Some}
use Rattle.zk_jute.specs.Item.{ACount}
use Rattle.zk_fields.specs.{Fields.Under, Room.Takes}
use Rattle.zk_fields.proofs.Rooms.{takes_both}
use Rattle.zk_fields.proofs.list.SeriesShow.show.Goals as goal

pub returns-in-Full : goal.returns-in-Full
returns-in-Full g c =
    let name = c.args.name in
    let room = c.args.room.now in
    let count = c.show_count-at in
    let counted = λ (n : ℕ). Under name (ACount (Some n)) ∷ [] in
    let told = subst (λ (n : ℕ). Takes c.args.at room (counted n) count.result count.new.room) c.count.ensures count.ensures in
    rw c.in-Full.is (takes_both c.args.at count.result c.show.result room count.new.room c.show.new.room _ _ told c.show.ensures)
