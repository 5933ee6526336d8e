-- `Front::put_number`, which calls itself, meets its contract. The measure is the number.
use Rattle.tabtext.proofs.sink.FrontSink.+put_number.Given as goal

abbrev pub decreases-put_number : goal.decreases-put_number
decreases-put_number l = l.v
