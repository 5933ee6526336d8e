-- `number::number_width`, which calls itself, meets its contract. The measure is the number.
use Rattle.tabtext.proofs.number.+number_width.Given as goal

abbrev pub decreases-number_width : goal.decreases-number_width
decreases-number_width l = l.v
