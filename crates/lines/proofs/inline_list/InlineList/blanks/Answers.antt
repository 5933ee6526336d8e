-- `blanks` meets its contract.
use Rattle.std.proofs.lemmas.List.{take-replicate, drop-replicate, length-replicate}
use Rattle.lines.proofs.inline_list.InlineList.blanks.Goals as goal

pub invariant_of-result : goal.invariant_of-result
invariant_of-result g c = rw c.blank.ensures (record { fits = c.requires; whole = length-replicate _ _; rest = drop-replicate _ _ _ })

pub returns : goal.returns
returns g c = rw c.blank.ensures (take-replicate _ _ _ c.requires)
