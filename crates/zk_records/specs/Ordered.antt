-- A `Stat` by its fields, as pairs of pairs.
use Rattle.std.specs.Prelude.{◌≡◌, ℤ, refl}
use Rattle.zk_jute.specs.Layout.{◌then◌}
use Rattle.zk_jute.specs.Wired.{Wired, ◌and◌, int, long}
use Rattle.zk_records.specs.Records.{stat}

abbrev pub stat_row : Wired ((ℤ × (ℤ × (ℤ × ℤ))) × ((ℤ × (ℤ × (ℤ × ℤ))) × (ℤ × (ℤ × ℤ))))
stat_row = (long and long and long and long) and (int and int and int and long) and int and int and long

pub stat_in_order : stat.layout ≡ stat_row.layout
unfolding ◌then◌
stat_in_order = refl
