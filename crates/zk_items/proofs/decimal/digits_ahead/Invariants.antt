use Rattle.std.proofs.Common.{◌≡◌, ◌≤◌, ◌-◌, take}
use Rattle.std.specs.Str.Parse.{AllDigits, digits_value}
use Rattle.zk_items.proofs.decimal.digits_ahead.Given as goal

abbrev pub invariant-loop-count : goal.invariant-loop-count
invariant-loop-count l = record {
  within : l.count ≤ l.most;
  digits : AllDigits 10 (take l.count l.bytes);
  value : l.value ≡ digits_value 10 (take l.count l.bytes);
}

abbrev pub decreases-loop-count : goal.decreases-loop-count
decreases-loop-count l = l.most - l.count
