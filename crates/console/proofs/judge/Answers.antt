-- `judge`: the room suffices, so its answer is that for an output of 65,536 bytes, and not 16.
use Rattle.convert.proofs.RoomSuffices.{program-answer}
use Rattle.console.proofs.judge.Goals as goal

pub returns-clause-answered : goal.returns-clause-answered
returns-clause-answered c = program-answer c.requires c.convert.ensures
