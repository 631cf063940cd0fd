-- Borrowed results, as values of their payload's bytes.
use Rattle.std.specs.Prelude.{ℕ, ◌+◌, ℤ, List, Option, Some, None, Ok}
use Rattle.zk_jute.specs.Reading.{Read, ◌>>=◌, read_map, int_at, long_at}
use Rattle.zk_jute.specs.Shown.{text_value, both_at}
use Rattle.zk_records.specs.Made as made
use Rattle.zk_records.specs.{declared.stat.Stat.Stat, declared.op.PartOp.PartOp}
use Rattle.zk_records.specs.declared.op.PartOp.TheVariants as parts
use Rattle.zk_asks.specs.Shown.{part_numbered}
use Rattle.zk_answers.specs.Held.{PartDone}
use Rattle.zk_answers.specs.declared.frame.PartDoneOf.TheVariants as done

-- ---- what is known of a node

abbrev pub Counts : Type 0
Counts = ℤ × (ℤ × (ℤ × (ℤ × (ℤ × (ℤ × ℤ)))))

abbrev pub counts_value : List ℕ → ℕ → Read Counts
counts_value src =
    both_at (int_at src) (both_at (int_at src) (both_at (int_at src) (both_at (long_at src) (both_at (int_at src) (both_at (int_at src) (long_at src))))))

abbrev pub stat_value : List ℕ → ℕ → Read Stat
stat_value src place = read_map made.stat (both_at (long_at src) (both_at (long_at src) (both_at (long_at src) (both_at (long_at src) (counts_value src)))) place)

-- ---- the results

-- after the header of an error, or of a part's result
abbrev pub result_value : Option PartOp → List ℕ → ℕ → Read PartDone
result_value None src place = read_map done.PartFailed (int_at src place)
result_value (Some parts.Create) src place = read_map done.Created (text_value src place)
result_value (Some parts.Delete) src place = Ok (done.Deleted, place)
result_value (Some parts.SetData) src place = read_map done.DataSet (stat_value src place)
result_value (Some parts.Check) src place = Ok (done.Checked, place)

-- the result at a place, after the nine bytes of its header
abbrev pub done_value : List ℕ → ℕ → Read PartDone
done_value src place = int_at src place >>= λ kind. result_value (part_numbered kind.0) src (place + 9)
