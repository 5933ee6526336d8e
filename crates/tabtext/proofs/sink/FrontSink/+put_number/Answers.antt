-- `Front::put_number`, which calls itself, meets its contract. The measure is the number.
use Prim.Native.Nat.{ℕ, ◌+◌, ◌/◌, ◌%◌}
use mathlib.Core.Path.{refl}
use mathlib.Core.List.{[], ◌∷◌}
use native.Mathlib.Omega.{arith}
use Rattle.tabtext.specs.Text.{decimal}
use Rattle.tabtext.specs.Sinks.{FrontTakes, written, front_laws}
use Rattle.tabtext.proofs.Decimal.{number-digit, number_more}
use Rattle.tabtext.proofs.Writing.{Left, left-all, left-room, left_less, left-last}
use Rattle.tabtext.proofs.sink.FrontSink.+put_number.Goals.{Then-v-lt10, After-put_number}
use Rattle.tabtext.proofs.sink.FrontSink.+put_number.Goals as goal

-- A number below 10 is its digit.
digit : (t : ℕ) (c : Then-v-lt10 t) → Left FrontTakes written c.args.self.now (decimal c.args.v) ((48 + c.args.v) ∷ []) c.args.self.now
digit t c = left-all front_laws {was = c.args.self.now} (number-digit _ c.if-v-lt10.true) c.requires

pub put-requires : goal.put-requires
put-requires t c = (digit t (goal.at.put-requires t c).Then-v-lt10).room

pub returns-then-v-lt10 : goal.returns-then-v-lt10
returns-then-v-lt10 t c = left-last front_laws (digit t (goal.at.returns-then-v-lt10 t c).Then-v-lt10) c.put.ensures

pub put_number-requires : goal.put_number-requires
put_number-requires t c = (omega arith, left-room front_laws (decimal (c.args.v / 10)) _ (number_more _ c.if-v-lt10.false) (left-all front_laws {was = c.args.self.now} refl c.requires))

-- What is left after the digits of the number's tenth: the last digit.
last : (t : ℕ) (c : After-put_number t) → Left FrontTakes written c.args.self.now (decimal c.args.v) ((48 + c.args.v % 10) ∷ []) c.put_number.new.self
last t c = left_less front_laws _ _ (number_more _ c.if-v-lt10.false) (left-all front_laws {was = c.args.self.now} refl c.requires) c.put_number.ensures

pub put-requires-2 : goal.put-requires-2
put-requires-2 t c = (last t (goal.at.put-requires-2 t c).After-put_number).room

pub returns : goal.returns
returns t c = left-last front_laws (last t (goal.at.returns t c).After-put_number) c.put-2.ensures
