-- Document 01: "If an answer is an enum, a definition gives this paper's number and values for each of the enum's cases." The numbers of
-- 01's table, "Numbers returned", for the enum of refusals; and of what a function answers that may refuse, 0 where it does not.
use Rattle.std.specs.Prelude.{ℕ, Result, Ok, Err}
use Rattle.refusals.specs.declared.Refusal.{Refusal}
use Rattle.refusals.specs.declared.Refusal.TheVariants as refusal

abbrev pub number_of_refusal : Refusal → ℕ
number_of_refusal refusal.BytesEnd = 1
number_of_refusal refusal.NotShortest = 2
number_of_refusal refusal.BytesFollow = 3
number_of_refusal refusal.Bound = 4
number_of_refusal refusal.Speeds = 5
number_of_refusal refusal.Energy = 6
number_of_refusal refusal.Horizon = 7
number_of_refusal refusal.Jobs = 8
number_of_refusal refusal.Values = 9
number_of_refusal refusal.Queues = 10
number_of_refusal refusal.Room = 11
number_of_refusal refusal.NoWay = 12
number_of_refusal refusal.State = 13
number_of_refusal refusal.AtHorizon = 14
number_of_refusal refusal.NoEntry = 15
number_of_refusal refusal.PlanByte = 16
number_of_refusal refusal.NextQueue = 17
number_of_refusal refusal.EnergyTotal = 18

-- of an answer: 0 where nothing is refused
abbrev pub number_of : {A : Type 0} → Result A Refusal → ℕ
number_of (Ok x) = 0
number_of (Err r) = number_of_refusal r
