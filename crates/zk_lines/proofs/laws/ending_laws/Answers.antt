use Rattle.zk_lines.specs.Endings.{ending_text}
use Rattle.zk_lines.proofs.{LawsPrinted.in_range, LawsPrinted.unbroken, LawsEndings.ending_printed, LawsEndings.ending_dotted, LawsApart.ending_apart}
use Rattle.zk_lines.proofs.laws.ending_laws.Goals as goal

pub returns-clause-different : goal.returns-clause-different
returns-clause-different c = ending_apart

pub returns-clause-dotted : goal.returns-clause-dotted
returns-clause-dotted c = ending_dotted

pub returns-clause-printed : goal.returns-clause-printed
returns-clause-printed c = λ e. in_range (ending_text e) (ending_printed e)

pub returns-clause-one_line : goal.returns-clause-one_line
returns-clause-one_line c = λ e. unbroken (ending_text e) (ending_printed e)
