use Rattle.session_shell.proofs.Goings.{line_comes, lines_come}
use Rattle.session_shell.proofs.laws.note_served_lines.Goals as goal

pub returns-clause-went : goal.returns-clause-went
returns-clause-went c = λ s lines before after items served. (lines_come s lines before after items served).0

pub returns-clause-fronts : goal.returns-clause-fronts
returns-clause-fronts c = λ s lines before after items served. (lines_come s lines before after items served).1

pub returns-clause-line : goal.returns-clause-line
returns-clause-line c = λ s asked before after told serves. line_comes s asked before after told serves
