use Rattle.zk_lines.specs.Lines.{line}
use Rattle.zk_lines.proofs.{Lines.line_apart, LawsHeld.said_held, LawsPrinted.in_range, LawsPrinted.unbroken, LawsShown.line_printed, LawsShown.line_lettered}
use Rattle.zk_lines.proofs.laws.line_laws.Goals as goal

pub returns-clause-different : goal.returns-clause-different
returns-clause-different c = line_apart

pub returns-clause-said_fits : goal.returns-clause-said_fits
returns-clause-said_fits c = said_held

pub returns-clause-printed : goal.returns-clause-printed
returns-clause-printed c = λ m fit. in_range (line m) (line_printed m fit)

pub returns-clause-one_line : goal.returns-clause-one_line
returns-clause-one_line c = λ m fit. unbroken (line m) (line_printed m fit)

pub returns-clause-not_dotted : goal.returns-clause-not_dotted
returns-clause-not_dotted c = line_lettered
