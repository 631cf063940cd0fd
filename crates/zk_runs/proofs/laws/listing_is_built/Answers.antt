use Rattle.zk_runs.proofs.Rebuilds.{listing_built, listing_run, built_spelled, said_in_pieces, same_bytes, comes_again}
use Rattle.zk_runs.proofs.laws.listing_is_built.Goals as goal

pub returns : goal.returns
returns c = record { built = listing_built; run = listing_run; pieces = built_spelled; said = said_in_pieces; bytes = same_bytes; again = comes_again }
