use Rattle.std.proofs.Common.{drop}
use Rattle.zk_talk.specs.Answer.{history_of}
use Rattle.zk_c.proofs.Cutting.{IsSoFar}
use Rattle.zk_c.proofs.pieces.cut_of.Given as goal

abbrev pub invariant-loop-piece : goal.invariant-loop-piece
invariant-loop-piece l = record {
  so_far : IsSoFar l.pieces l.bytes (history_of l.cut.items) (drop l.piece-index l.pieces) l.rest;
}
