-- The cases of document 01 that are marked P, those of the requests, and more cases for what is easy to get wrong. `Holds` gives each kind
-- of case its meaning in the definitions; that all of them hold is one theorem, proofs/Cases.antt.
use Rattle.std.specs.Prelude.{ℕ, ◌+◌, ◌<◌, ◌≡◌, Bool, true, false, List, [], ◌∷◌, ◌++◌, length, get_or, take, replicate, set}
use Rattle.std.proofs.Math.Option.{Option, none, some}
use Rattle.model.specs.Bytes.{code, sheet_bytes, write}
use Rattle.model.specs.View.{View, view_of, view_with}
use Rattle.model.specs.Listing.{text, decimal, listing, refused_line, list}
use Rattle.model.specs.Plan.{IsValueAt, IsCostAt, IsPlanByte, PlanAnswer, FromEmpty, admissible, plan_refusal, queue_at, row}
use Rattle.model.specs.Pricing.{enough, IsRuleSpeed, RuleAnswer, IsPriceAt, PriceAnswer}
use Rattle.model.specs.Queue.{Queue, empty_queue, places_of, run, arrive, queue_count, number_of, bearable}
use Rattle.model.specs.Reading.{Answer, value, refused, field, read}
use Rattle.model.specs.Refusal.{sheet_refusal, N, value_limit}
use Rattle.model.specs.Stepper.{State, Stepped, start, advance}
use Rattle.model.specs.Width.{narrow, value_in}
use Rattle.model.specs.declared.Job.{Job}
use Rattle.model.specs.declared.Sheet.{Sheet}
use Rattle.model.specs.declared.Speed.{Speed}

pub data Case : Type 0 where
  -- a row of values and a row of plan bytes are those of a sheet's slot, each queue in order
  planned : View → ℕ → List ℕ → List ℕ → Case
  -- the value of a sheet's slot and a queue
  valued : View → ℕ → Queue → Option ℕ → Case
  -- the value and the plan byte of a sheet's slot and a queue
  decides : View → ℕ → Queue → Option ℕ → ℕ → Case
  -- what the planner answers for a sheet: the number, N and the least energy
  answers : View → ℕ → ℕ → ℕ → Case
  -- what a speed costs in a sheet's slot and a queue
  costs : View → ℕ → Queue → ℕ → ℕ → Case
  -- a row of plan bytes is that of the old rule, each queue in order
  ruled : View → List ℕ → Case
  -- a row of values is that of a plan's prices from a sheet's slot, each queue in order
  priced : View → List ℕ → ℕ → List ℕ → Case
  -- the price of a plan from a sheet's slot and a queue
  prices : View → List ℕ → ℕ → Queue → Option ℕ → Case
  -- the number of a sheet
  refuses : View → ℕ → Case
  -- what reading bytes answers: the number, and the sheet with every place of it
  reads : List ℕ → ℕ → Sheet → Case
  -- the places that count of a sheet in memory
  views : Sheet → View → Case
  -- N for M and D
  counts : ℕ → ℕ → ℕ → Case
  -- what a field answers
  fields : Answer ℕ → Answer ℕ → Case
  -- what a start or an advance answers: the number, the state and the speed
  steps : Stepped → ℕ → State → ℕ → Case
  -- two numbers, two lists, two tests are the same
  numbers : ℕ → ℕ → Case
  lists : List ℕ → List ℕ → Case
  tests : Bool → Bool → Case

abbrev pub Holds : Case → Type 0
Holds (planned s t values plan) =
    (length values ≡ N s) × (length plan ≡ N s) ×
    ((i : ℕ) → i < N s → IsValueAt s t (queue_at s i) (value_in narrow values i) ×
    IsPlanByte s t (queue_at s i) (value_in narrow values i) (get_or plan i 0))
Holds (valued s t w r) = IsValueAt s t w r
Holds (decides s t w r byte) = IsValueAt s t w r × IsPlanByte s t w r byte
Holds (answers s number queues least) = FromEmpty s (record { number = number; queues = queues; least = least }) × (N s ≡ queues)
Holds (costs s t w speed v) = IsCostAt s t w speed v
Holds (ruled s row) = (length row ≡ N s) × ((i : ℕ) → i < N s → IsRuleSpeed s (queue_at s i) (get_or row i 0))
Holds (priced s plan t values) =
    (length values ≡ N s) × ((i : ℕ) → i < N s → IsPriceAt s plan t (queue_at s i) (value_in narrow values i))
Holds (prices s plan t w r) = IsPriceAt s plan t w r
Holds (refuses s number) = sheet_refusal value_limit s ≡ number
Holds (reads bytes number memory) = ((read bytes).number ≡ number) × ((read bytes).sheet ≡ memory)
Holds (views memory s) = view_of memory ≡ s
Holds (counts M D n) = queue_count M D ≡ n
Holds (fields found expected) = found ≡ expected
Holds (steps answer number state speed) = (answer.number ≡ number) × (answer.state ≡ state) × (answer.speed ≡ speed)
Holds (numbers found expected) = found ≡ expected
Holds (lists found expected) = found ≡ expected
Holds (tests found expected) = found ≡ expected

abbrev pub AllHold : List Case → Type 0
AllHold [] = Unit {0}
AllHold (c ∷ rest) = Holds c × AllHold rest

-- speeds and jobs for the sheets of the cases

abbrev pub at : ℕ → ℕ → Speed
at speed energy = record { speed = speed; energy = energy }

abbrev pub job : ℕ → ℕ → ℕ → Job
job weight size deadline = record { weight = weight; size = size; deadline = deadline }

-- a sheet in memory: nine places for speeds and thirty-two for jobs, those past the lists holding `junk`
abbrev pub memory : ℕ → View → Sheet
memory junk s =
    record {
      bound = s.bound;
      speed_count = s.speed_count;
      speeds = take 9 (s.speeds ++ replicate 9 (at junk junk));
      horizon = s.horizon;
      job_count = s.job_count;
      jobs = take 32 (s.jobs ++ replicate 32 (job junk junk junk));
    }

-- every place zero
abbrev pub blank : Sheet
blank = memory 0 (view_with 0 [] 0 [])

-- a state; its queue is padded to six places
abbrev pub state : Queue → ℕ → ℕ → State
state w slot energy = record { queue = places_of w; slot = slot; energy = energy }

-- "Sheet A: D 2; speeds 0, 1, 2 with energies 0, 1, 4; T 2; jobs (weight 1, size 0, deadline 1) and (1, 2, 2)"
abbrev pub A : View
A = view_with 2 (at 0 0 ∷ at 1 1 ∷ at 2 4 ∷ []) 2 (job 1 0 1 ∷ job 1 2 2 ∷ [])

-- sheet A's plan, as 01's listing has it

abbrev pub A0 : List ℕ
A0 = 0 ∷ 0 ∷ 1 ∷ 1 ∷ 2 ∷ 1 ∷ 1 ∷ 1 ∷ 2 ∷ 2 ∷ 2 ∷ 2 ∷ []

abbrev pub A1 : List ℕ
A1 = 0 ∷ 0 ∷ 0 ∷ 1 ∷ 2 ∷ 1 ∷ 1 ∷ 1 ∷ 2 ∷ 2 ∷ 2 ∷ 2 ∷ []

abbrev pub plan_A : List ℕ
plan_A = A0 ++ A1

-- "values of slot 0: 0 4 8 20 32 4 8 20 32 16 20 32"
abbrev pub values_A0 : List ℕ
values_A0 = 0 ∷ 4 ∷ 8 ∷ 20 ∷ 32 ∷ 4 ∷ 8 ∷ 20 ∷ 32 ∷ 16 ∷ 20 ∷ 32 ∷ []

-- "values of slot 1: 0 0 0 2 8 2 2 2 8 8 8 8"
abbrev pub values_A1 : List ℕ
values_A1 = 0 ∷ 0 ∷ 0 ∷ 2 ∷ 8 ∷ 2 ∷ 2 ∷ 2 ∷ 8 ∷ 8 ∷ 8 ∷ 8 ∷ []

-- "D 1, speeds 0 and 1 with energies 0 and 1, T 1, one job (1, 2, 1): number 12, plan bytes 255 255"
abbrev pub hopeless : View
hopeless = view_with 1 (at 0 0 ∷ at 1 1 ∷ []) 1 (job 1 2 1 ∷ [])

-- one job, and it is empty
abbrev pub idle : ℕ → List Speed → ℕ → View
idle D speeds T = view_with D speeds T (job 1 0 1 ∷ [])

abbrev pub upto5 : List Speed
upto5 = at 0 0 ∷ at 1 0 ∷ at 2 0 ∷ at 3 0 ∷ at 4 0 ∷ at 5 0 ∷ []

abbrev pub upto6 : List Speed
upto6 = upto5 ++ (at 6 0 ∷ [])

-- "none is written 2^64-1 in the values", in digits
abbrev pub none64 : ℕ
none64 = 18446744073709551615

-- what `plan` leaves and answers for the two sheets; the theorems over its contract are plan_of_A and plan_of_hopeless of demands

-- 01's values of both slots, the plan bytes of its listing, and the header's numbers
pub record IsPlanOfA (values bytes : List ℕ) (answer : PlanAnswer) : Type 0 where
  pub slot_0 : (i : ℕ) → i < 12 → (get_or values i 0 ≡ get_or values_A0 i 0) × (get_or bytes i 0 ≡ get_or A0 i 0)
  pub slot_1 : (i : ℕ) → i < 12 → (get_or values (12 + i) 0 ≡ get_or values_A1 i 0) × (get_or bytes (12 + i) 0 ≡ get_or A1 i 0)
  pub answer_is : answer ≡ record { number = 0; queues = 12; least = 0 }

-- "P: D 1, speeds 0 and 1 with energies 0 and 1, T 1, one job (1, 2, 1): number 12, plan bytes 255 255"
pub record IsPlanOfHopeless (values bytes : List ℕ) (answer : PlanAnswer) : Type 0 where
  pub slot_0 : (i : ℕ) → i < 2 → (get_or values i 0 ≡ get_or (none64 ∷ none64 ∷ []) i 0) × (get_or bytes i 0 ≡ get_or (255 ∷ 255 ∷ []) i 0)
  pub answer_is : answer ≡ record { number = 12; queues = 2; least = 0 }

-- sheet A's plan: 01's values and the plan bytes of its listing
unfoldable pub cases_of_A : List Case
cases_of_A = refuses A 0 ∷ answers A 0 12 0 ∷ planned A 0 values_A0 A0 ∷ planned A 1 values_A1 A1 ∷ []

-- the sheet that gives 12: "D 1, speeds 0 and 1 .., T 1, one job (1, 2, 1): number 12, plan bytes 255 255"
unfoldable pub cases_of_hopeless : List Case
cases_of_hopeless = refuses hopeless 0 ∷ answers hopeless 12 2 0 ∷ planned hopeless 0 (none64 ∷ none64 ∷ []) (255 ∷ 255 ∷ []) ∷ []

-- the cases marked P
unfoldable pub cases_P : List Case
cases_P =
    cases_of_A ++ (cases_of_hopeless ++ (
    -- "At queue 1, speeds 0 and 1 both cost 4; 0 is given"
    numbers (number_of 2 (0 ∷ 1 ∷ [])) 1 ∷
    costs A 0 (0 ∷ 1 ∷ []) 0 4 ∷
    costs A 0 (0 ∷ 1 ∷ []) 1 4 ∷
    decides A 0 (0 ∷ 1 ∷ []) (some 4) 0 ∷
    -- 01: "start (0,2): speed 1; advance by (2,2): queue (1,3), energy 1 .. speed 1; advance by (0,1): queue (2,2), energy 2. P: then 14".
    -- [1]: "Start .. answers the first speed; advance answers the speed of the slot that begins, or 255 when the horizon is reached"
    steps (start A plan_A (state (0 ∷ 2 ∷ []) 0 0)) 0 (state (0 ∷ 2 ∷ []) 0 0) 1 ∷
    steps (advance A plan_A (state (0 ∷ 2 ∷ []) 0 0) 2 2) 0 (state (1 ∷ 3 ∷ []) 1 1) 1 ∷
    steps (advance A plan_A (state (1 ∷ 3 ∷ []) 1 1) 0 1) 0 (state (2 ∷ 2 ∷ []) 2 2) 255 ∷
    steps (advance A plan_A (state (2 ∷ 2 ∷ []) 2 2) 0 1) 14 (state (2 ∷ 2 ∷ []) 2 2) 0 ∷
    -- "130 is `82 01`; 300 is `Ac 02`. P: `80 00` gives 2. P: `FF FF` at the end gives 1; `FF FF FF` gives 2"
    lists (code 130) (0x82 ∷ 0x01 ∷ []) ∷
    lists (code 300) (0xAC ∷ 0x02 ∷ []) ∷
    fields (field (0x82 ∷ 0x01 ∷ []) 0) (value 130 2) ∷
    fields (field (0xAC ∷ 0x02 ∷ []) 0) (value 300 2) ∷
    fields (field (0x80 ∷ 0x00 ∷ []) 0) (refused 2) ∷
    fields (field (0xFF ∷ 0xFF ∷ []) 0) (refused 1) ∷
    fields (field (0xFF ∷ 0xFF ∷ 0xFF ∷ []) 0) (refused 2) ∷
    -- "N is 12 for M 2, D 2. N is 62,832 for M 5, D 5 (accepted) and 141,778 for M 6, D 5 (number 10)"
    counts 2 2 12 ∷
    counts 5 5 62832 ∷
    refuses (idle 5 upto5 1) 0 ∷
    counts 6 5 141778 ∷
    refuses (idle 5 upto6 1) 10 ∷
    -- document 000's first figure: "at time 4, before anything more, the queue is (0,0,1,3,3,3)"
    lists (run (arrive (run (arrive (run (arrive (run (arrive (empty_queue 6) 2 4) 1) 1 5) 0) 2 6) 2) 2 4) 1)
    (0 ∷ 0 ∷ 1 ∷ 3 ∷ 3 ∷ 3 ∷ []) ∷
    []))

-- sheets of the cases for what is easy to get wrong

abbrev pub of_A : List Job → View
of_A jobs = view_with 2 (at 0 0 ∷ at 1 1 ∷ at 2 4 ∷ []) 2 jobs

-- sheet A with an entry that stands there twice
abbrev pub twice : View
twice = of_A (job 1 0 1 ∷ job 1 2 2 ∷ job 1 2 2 ∷ [])

-- energies that fall while speeds rise
abbrev pub falling : View
falling = view_with 2 (at 0 5 ∷ at 1 3 ∷ at 2 1 ∷ []) 2 (job 1 0 1 ∷ job 1 2 2 ∷ [])

-- sheet A with all energies 0
abbrev pub free : View
free = view_with 2 (at 0 0 ∷ at 1 0 ∷ at 2 0 ∷ []) 2 (job 1 0 1 ∷ job 1 2 2 ∷ [])

-- weights that differ, and queues with no plan among queues that have one
abbrev pub uneven : View
uneven = view_with 2 (at 0 0 ∷ at 1 2 ∷ at 2 5 ∷ []) 2 (job 3 0 1 ∷ job 2 1 1 ∷ [])

-- two speeds, one job larger than a slot
abbrev pub coarse : View
coarse = view_with 2 (at 0 0 ∷ at 2 4 ∷ []) 2 (job 1 3 2 ∷ [])

-- one job of weight 2, energies 0 and `energy`
abbrev pub doubling : ℕ → ℕ → View
doubling energy T = view_with 1 (at 0 0 ∷ at 1 energy ∷ []) T (job 2 0 1 ∷ [])

-- a sheet that names 200 speeds where nine have room
abbrev pub crowded : View
crowded =
    record { bound = 2; speed_count = 200; speeds = replicate 9 (at 0 0); horizon = 1; job_count = 1; jobs = job 1 0 1 ∷ [] }

abbrev pub bytes_A : List ℕ
bytes_A =
    0x02 ∷ 0x03 ∷ 0x00 ∷ 0x00 ∷ 0x01 ∷ 0x01 ∷ 0x02 ∷ 0x04 ∷ 0x02 ∷ 0x02 ∷ 0x01 ∷ 0x00 ∷ 0x01 ∷ 0x01 ∷ 0x02 ∷ 0x02 ∷ []

-- plans and values
unfoldable pub cases_of_plans : List Case
cases_of_plans =
    -- two equal entries both count
    planned twice 0 (0 ∷ 9 ∷ 18 ∷ 45 ∷ 72 ∷ 9 ∷ 18 ∷ 45 ∷ 72 ∷ 36 ∷ 45 ∷ 72 ∷ []) A0 ∷
    -- a dearer slow speed is no better for being slow
    planned falling 0 (replicate 12 8) (replicate 12 2) ∷
    planned falling 1 (replicate 12 2) (replicate 12 2) ∷
    -- "Energies all zero": every value is 0, and the slowest speed that begins a good way is planned
    planned free 0 (replicate 12 0) (0 ∷ 0 ∷ 0 ∷ 1 ∷ 2 ∷ 1 ∷ 1 ∷ 1 ∷ 2 ∷ 2 ∷ 2 ∷ 2 ∷ []) ∷
    -- weights scale the energies of all later slots
    planned uneven 0 (20 ∷ 70 ∷ 130 ∷ 205 ∷ none64 ∷ 70 ∷ 130 ∷ 205 ∷ none64 ∷ 145 ∷ 205 ∷ none64 ∷ [])
    (0 ∷ 1 ∷ 1 ∷ 2 ∷ 255 ∷ 1 ∷ 1 ∷ 2 ∷ 255 ∷ 2 ∷ 2 ∷ 255 ∷ []) ∷
    planned uneven 1 (0 ∷ 0 ∷ 10 ∷ 25 ∷ none64 ∷ 10 ∷ 10 ∷ 25 ∷ none64 ∷ 25 ∷ 25 ∷ none64 ∷ [])
    (0 ∷ 0 ∷ 1 ∷ 2 ∷ 255 ∷ 1 ∷ 1 ∷ 2 ∷ 255 ∷ 2 ∷ 2 ∷ 255 ∷ []) ∷
    answers uneven 0 12 20 ∷
    -- (0,3) cannot be reached from empty, and is planned like any other
    decides A 0 (0 ∷ 3 ∷ []) (some 20) 1 ∷
    -- "row T of values is 0 for every bearable queue", and a queue that is not bearable has none
    valued A 2 (2 ∷ 4 ∷ []) (some 0) ∷
    valued A 2 (2 ∷ 5 ∷ []) none ∷
    valued A 0 (3 ∷ 3 ∷ []) none ∷
    -- at least w(1) is not enough: at (0,4) speed 1 leaves (3,3)
    tests (admissible A (0 ∷ 4 ∷ []) 1) false ∷
    tests (admissible A (0 ∷ 4 ∷ []) 2) true ∷
    tests (admissible A (0 ∷ 0 ∷ []) 3) false ∷
    tests (admissible A (1 ∷ 1 ∷ []) 0) false ∷
    -- admissible is not good: both speeds are admissible, but only 2 begins a good way, since 0 may lead to (1,4), which has none
    tests (admissible coarse (0 ∷ 1 ∷ []) 0) true ∷
    tests (admissible coarse (0 ∷ 1 ∷ []) 2) true ∷
    decides coarse 1 (1 ∷ 4 ∷ []) none 255 ∷
    decides coarse 0 (0 ∷ 1 ∷ []) (some 8) 2 ∷
    -- a tie goes to the slower speed
    decides (view_with 1 (at 0 7 ∷ at 1 7 ∷ []) 1 (job 1 0 1 ∷ [])) 0 (empty_queue 1) (some 7) 0 ∷
    -- "values, (T+1) times N places ..; and the plan, T times N bytes"
    numbers (plan_refusal narrow A 36 24) 0 ∷
    numbers (plan_refusal narrow A 35 24) 11 ∷
    numbers (plan_refusal narrow A 36 23) 11 ∷
    numbers (plan_refusal narrow crowded 0 0) 5 ∷
    -- the row of a slot, and the empty part
    lists (row A plan_A 0) A0 ∷
    lists (row A plan_A 1) A1 ∷
    lists (row A plan_A 2) [] ∷
    lists (row A A0 0) [] ∷
    lists (row crowded plan_A 0) [] ∷
    []

-- queues, their numbers and one slot
unfoldable pub cases_of_queues : List Case
cases_of_queues =
    counts 1 1 2 ∷
    counts 2 3 55 ∷
    counts 8 2 117 ∷
    counts 3 5 7084 ∷
    -- D 6, whose first position has six left to fill, and the largest N
    counts 2 6 7752 ∷
    counts 8 6 9706503 ∷
    -- after a slot D - 1 positions are left, which may be none
    counts 5 0 1 ∷
    numbers (number_of 2 (empty_queue 2)) 0 ∷
    numbers (number_of 2 (1 ∷ 3 ∷ [])) 7 ∷
    numbers (number_of 2 (2 ∷ 4 ∷ [])) 11 ∷
    tests (bearable 2 (2 ∷ 4 ∷ [])) true ∷
    tests (bearable 2 (3 ∷ 4 ∷ [])) false ∷
    tests (bearable 2 (2 ∷ 5 ∷ [])) false ∷
    tests (bearable 2 (2 ∷ 1 ∷ [])) false ∷
    -- the last total stays at the shift; a slot is run on the totals, and not on each deadline's own work
    lists (run (0 ∷ 2 ∷ []) 0) (2 ∷ 2 ∷ []) ∷
    lists (run (1 ∷ 3 ∷ 6 ∷ []) 2) (1 ∷ 4 ∷ 4 ∷ []) ∷
    lists (run (1 ∷ 3 ∷ 6 ∷ []) 5) (0 ∷ 1 ∷ 1 ∷ []) ∷
    -- D 1: after a slot at a speed of at least w(1) nothing is left
    lists (run (5 ∷ []) 5) (0 ∷ []) ∷
    lists (arrive (0 ∷ 1 ∷ 1 ∷ []) 4 2) (0 ∷ 5 ∷ 5 ∷ []) ∷
    []

-- the numbers of a sheet in memory
unfoldable pub cases_of_refusals : List Case
cases_of_refusals =
    refuses (idle 0 (at 1 0 ∷ []) 0) 4 ∷
    refuses (idle 7 upto5 1) 4 ∷
    refuses (idle 2 (at 0 0 ∷ []) 0) 5 ∷
    refuses crowded 5 ∷
    refuses (idle 2 (at 1 0 ∷ at 2 0 ∷ []) 1) 5 ∷
    refuses (idle 2 (at 0 0 ∷ at 9 0 ∷ []) 1) 5 ∷
    -- the energy of a speed is tested before the next speed, and after its own
    refuses (idle 2 (at 0 70000 ∷ at 0 0 ∷ []) 1) 6 ∷
    refuses (idle 2 (at 0 0 ∷ at 0 70000 ∷ []) 1) 5 ∷
    refuses (idle 2 (at 0 0 ∷ at 1 65536 ∷ []) 1) 6 ∷
    refuses (idle 2 (at 0 0 ∷ at 1 65535 ∷ []) 1) 0 ∷
    refuses (idle 2 (at 0 0 ∷ at 1 65536 ∷ []) 0) 6 ∷
    refuses (view_with 2 upto5 0 []) 7 ∷
    refuses (view_with 2 upto5 201 []) 7 ∷
    refuses (view_with 2 upto5 1 []) 8 ∷
    -- both of two jobs are looked at
    refuses (of_A (job 1 0 1 ∷ job 0 2 2 ∷ [])) 8 ∷
    refuses (of_A (job 256 0 1 ∷ job 1 2 2 ∷ [])) 8 ∷
    refuses (of_A (job 1 256 1 ∷ job 1 2 2 ∷ [])) 8 ∷
    refuses (of_A (job 1 0 0 ∷ job 1 2 2 ∷ [])) 8 ∷
    refuses (of_A (job 1 0 1 ∷ job 1 2 3 ∷ [])) 8 ∷
    -- "One job of weight 2, greatest energy 1: T 57 is accepted, T 58 gives 9", and so where all energies are 0
    refuses (doubling 1 57) 0 ∷
    refuses (doubling 1 58) 9 ∷
    refuses (doubling 0 57) 0 ∷
    refuses (doubling 0 58) 9 ∷
    -- T 16, W 8: 16 times 2,048 times 8^16 is 2^63, which is one too many
    refuses (view_with 1 (at 0 0 ∷ at 1 2047 ∷ []) 16 (job 8 0 1 ∷ [])) 0 ∷
    refuses (view_with 1 (at 0 0 ∷ at 1 2048 ∷ []) 16 (job 8 0 1 ∷ [])) 9 ∷
    -- 9 comes before 10, and 8 before 9
    refuses (view_with 5 upto6 200 (job 255 0 1 ∷ [])) 9 ∷
    refuses (view_with 5 upto6 200 (job 255 0 6 ∷ [])) 8 ∷
    []

-- bytes
unfoldable pub cases_of_bytes : List Case
cases_of_bytes =
    lists (code 0) (0x00 ∷ []) ∷
    lists (code 127) (0x7F ∷ []) ∷
    lists (code 128) (0x80 ∷ 0x01 ∷ []) ∷
    lists (code 16384) (0x80 ∷ 0x80 ∷ 0x01 ∷ []) ∷
    lists (code 65535) (0xFF ∷ 0xFF ∷ 0x03 ∷ []) ∷
    fields (field [] 0) (refused 1) ∷
    fields (field (0x00 ∷ 0x05 ∷ []) 0) (value 0 1) ∷
    fields (field (0x00 ∷ 0x05 ∷ []) 1) (value 5 2) ∷
    fields (field (0x80 ∷ 0x80 ∷ []) 0) (refused 1) ∷
    fields (field (0x80 ∷ 0x80 ∷ 0x00 ∷ []) 0) (refused 2) ∷
    fields (field (0x80 ∷ 0x80 ∷ 0x01 ∷ []) 0) (value 16384 3) ∷
    fields (field (0xFF ∷ 0xFF ∷ 0x7F ∷ []) 0) (value 2097151 3) ∷
    fields (field (0xFF ∷ 0xFF ∷ 0xFF ∷ 0x01 ∷ []) 0) (refused 2) ∷
    lists (sheet_bytes A) bytes_A ∷
    -- an accepted read has zero in every place past the counts, and a refused one everywhere
    reads bytes_A 0 (memory 0 A) ∷
    reads [] 1 blank ∷
    -- a field's own range is tested before the next field is read
    reads (0x07 ∷ []) 4 blank ∷
    reads (0x02 ∷ []) 1 blank ∷
    reads (0x02 ∷ 0x0A ∷ []) 5 blank ∷
    reads (0x02 ∷ 0x02 ∷ 0x01 ∷ []) 5 blank ∷
    reads (0x02 ∷ 0x02 ∷ 0x00 ∷ 0x00 ∷ 0x00 ∷ []) 5 blank ∷
    reads (0x02 ∷ 0x02 ∷ 0x00 ∷ 0xF0 ∷ 0xA2 ∷ 0x04 ∷ 0x00 ∷ 0x00 ∷ []) 6 blank ∷
    reads (set bytes_A 8 0x00) 7 blank ∷
    reads (set bytes_A 9 0x00) 8 blank ∷
    reads (set bytes_A 10 0x00) 8 blank ∷
    reads (take 14 bytes_A ++ (0x80 ∷ 0x02 ∷ [])) 8 blank ∷
    reads (set bytes_A 15 0x03) 8 blank ∷
    reads (take 15 bytes_A) 1 blank ∷
    -- after the last field 3, then 9, then 10
    reads (bytes_A ++ (0x00 ∷ [])) 3 blank ∷
    reads (sheet_bytes (doubling 1 57)) 0 (memory 0 (doubling 1 57)) ∷
    reads (sheet_bytes (doubling 1 58)) 9 blank ∷
    reads (sheet_bytes (doubling 1 58) ++ (0x00 ∷ [])) 3 blank ∷
    reads (sheet_bytes (idle 5 upto6 1)) 10 blank ∷
    -- places past the counts are no part of the sheet, and it is written the same
    views (memory 7 A) A ∷
    lists (sheet_bytes (view_of (memory 7 A))) bytes_A ∷
    -- eleven: a buffer of fifteen; places past the length stay
    lists (write A (replicate 15 7)).buffer (replicate 15 7) ∷
    numbers (write A (replicate 15 7)).number 11 ∷
    numbers (write A (replicate 15 7)).written 0 ∷
    numbers (write A (replicate 16 7)).number 0 ∷
    lists (write A (replicate 17 7)).buffer (bytes_A ++ (7 ∷ [])) ∷
    numbers (write A (replicate 17 7)).number 0 ∷
    numbers (write A (replicate 17 7)).written 16 ∷
    -- the sheet's own number comes before 11
    numbers (write crowded []).number 5 ∷
    []

-- the stepper

-- sheet A's plan with another byte at a place
abbrev pub damaged : ℕ → ℕ → List ℕ
damaged place byte = set plan_A place byte

unfoldable pub cases_of_steps : List Case
cases_of_steps =
    -- the slot and the energy of the state that a run starts from are not looked at
    steps (start A plan_A (state (0 ∷ 2 ∷ []) 7 99)) 0 (state (0 ∷ 2 ∷ []) 0 0) 1 ∷
    -- the first speed is the byte of slot 0 and of this queue, whatever stands elsewhere
    steps (start A (A0 ++ replicate 12 255) (state (0 ∷ 4 ∷ []) 0 0)) 0 (state (0 ∷ 4 ∷ []) 0 0) 2 ∷
    -- 13: falling, not bearable, a number that would wrap, an unused position; a refused start gives zeros
    steps (start A plan_A (state (2 ∷ 1 ∷ []) 0 0)) 13 (state [] 0 0) 0 ∷
    steps (start A plan_A (state (0 ∷ 5 ∷ []) 0 0)) 13 (state [] 0 0) 0 ∷
    steps (start A plan_A (state (0 ∷ 4294967295 ∷ []) 0 0)) 13 (state [] 0 0) 0 ∷
    steps (start A plan_A (state (0 ∷ 0 ∷ 1 ∷ []) 0 0)) 13 (state [] 0 0) 0 ∷
    -- the sheet's own number comes before 11, and 11 before 13
    steps (start crowded [] (state (0 ∷ 5 ∷ []) 0 0)) 5 (state [] 0 0) 0 ∷
    steps (start A A0 (state (0 ∷ 5 ∷ []) 0 0)) 11 (state [] 0 0) 0 ∷
    -- 16: a queue that has no plan is not started, nor one whose byte is damaged
    steps (start hopeless (255 ∷ 255 ∷ []) (state (1 ∷ []) 0 0)) 16 (state [] 0 0) 0 ∷
    steps (start A (damaged 5 0) (state (1 ∷ 1 ∷ []) 0 0)) 16 (state [] 0 0) 0 ∷
    steps (start A (damaged 4 3) (state (0 ∷ 4 ∷ []) 0 0)) 16 (state [] 0 0) 0 ∷
    -- 11 asks for the whole plan whatever the slot, after the sheet's own number and before 13 and 14
    steps (advance crowded [] (state (0 ∷ 5 ∷ []) 9 0) 0 1) 5 (state (0 ∷ 5 ∷ []) 9 0) 0 ∷
    steps (advance A A0 (state (0 ∷ 5 ∷ []) 9 0) 0 1) 11 (state (0 ∷ 5 ∷ []) 9 0) 0 ∷
    steps (advance A (plan_A ++ (7 ∷ [])) (state (0 ∷ 2 ∷ []) 0 0) 0 1) 0 (state (1 ∷ 1 ∷ []) 1 1) 1 ∷
    -- a slot above T is 13, and slot T is 14
    steps (advance A plan_A (state (0 ∷ 2 ∷ []) 3 0) 0 1) 13 (state (0 ∷ 2 ∷ []) 3 0) 0 ∷
    steps (advance A plan_A (state (0 ∷ 2 ∷ []) 2 0) 0 1) 14 (state (0 ∷ 2 ∷ []) 2 0) 0 ∷
    steps (advance A plan_A (state (0 ∷ 5 ∷ []) 2 0) 0 1) 13 (state (0 ∷ 5 ∷ []) 2 0) 0 ∷
    -- the energy is at most the slot number times the greatest energy, which is 0 where all energies are
    steps (advance A plan_A (state (0 ∷ 2 ∷ []) 1 4) 0 1) 0 (state (2 ∷ 2 ∷ []) 2 4) 255 ∷
    steps (advance A plan_A (state (0 ∷ 2 ∷ []) 1 5) 0 1) 13 (state (0 ∷ 2 ∷ []) 1 5) 0 ∷
    steps (advance free plan_A (state (0 ∷ 0 ∷ []) 1 1) 0 1) 13 (state (0 ∷ 0 ∷ []) 1 1) 0 ∷
    steps (advance free plan_A (state (0 ∷ 0 ∷ []) 1 0) 0 1) 0 (state (0 ∷ 0 ∷ []) 2 0) 255 ∷
    steps (advance falling plan_A (state (0 ∷ 0 ∷ []) 1 5) 0 1) 0 (state (0 ∷ 0 ∷ []) 2 10) 255 ∷
    -- a damaged plan: 16 is for a byte that is no speed of the sheet or is below w(1), not for an inadmissible speed, which 17 stops
    steps (start A (damaged 4 0) (state (0 ∷ 4 ∷ []) 0 0)) 0 (state (0 ∷ 4 ∷ []) 0 0) 0 ∷
    steps (advance A (damaged 4 0) (state (0 ∷ 4 ∷ []) 0 0) 0 1) 17 (state (0 ∷ 4 ∷ []) 0 0) 0 ∷
    steps (advance A (damaged 4 0) (state (0 ∷ 4 ∷ []) 0 0) 1 1) 15 (state (0 ∷ 4 ∷ []) 0 0) 0 ∷
    steps (advance A (damaged 4 3) (state (0 ∷ 4 ∷ []) 0 0) 1 1) 16 (state (0 ∷ 4 ∷ []) 0 0) 0 ∷
    steps (advance A (damaged 5 0) (state (1 ∷ 1 ∷ []) 0 0) 0 1) 16 (state (1 ∷ 1 ∷ []) 0 0) 0 ∷
    -- the new slot's byte: (1,3) has number 7, so its byte at slot 1 is at place 19. 255 is no speed, nor is 3; 0 is below w(1); the old
    -- state comes back
    steps (advance A (damaged 19 255) (state (0 ∷ 2 ∷ []) 0 0) 2 2) 16 (state (0 ∷ 2 ∷ []) 0 0) 0 ∷
    steps (advance A (damaged 19 3) (state (0 ∷ 2 ∷ []) 0 0) 2 2) 16 (state (0 ∷ 2 ∷ []) 0 0) 0 ∷
    steps (advance A (damaged 19 0) (state (0 ∷ 2 ∷ []) 0 0) 2 2) 16 (state (0 ∷ 2 ∷ []) 0 0) 0 ∷
    steps (advance A (damaged 19 2) (state (0 ∷ 2 ∷ []) 0 0) 2 2) 0 (state (1 ∷ 3 ∷ []) 1 1) 2 ∷
    -- it is tested last: after 15, and after 17
    steps (advance A (damaged 19 255) (state (0 ∷ 2 ∷ []) 0 0) 2 1) 15 (state (0 ∷ 2 ∷ []) 0 0) 0 ∷
    steps (advance A (A0 ++ replicate 12 255) (state (0 ∷ 4 ∷ []) 0 0) 2 2) 16 (state (0 ∷ 4 ∷ []) 0 0) 0 ∷
    steps (advance A (replicate 12 0 ++ replicate 12 255) (state (0 ∷ 4 ∷ []) 0 0) 2 2) 17 (state (0 ∷ 4 ∷ []) 0 0) 0 ∷
    -- at the horizon no byte is: what stands behind the plan is not looked at
    steps (advance A (plan_A ++ replicate 12 0) (state (1 ∷ 3 ∷ []) 1 1) 0 1) 0 (state (2 ∷ 2 ∷ []) 2 2) 255 ∷
    -- the energy added is that of the speed run at
    steps (advance A plan_A (state (2 ∷ 2 ∷ []) 0 0) 0 1) 0 (state (0 ∷ 0 ∷ []) 1 4) 0 ∷
    -- 15 asks for an entry with this size and this deadline together
    steps (advance A plan_A (state (0 ∷ 2 ∷ []) 0 0) 2 1) 15 (state (0 ∷ 2 ∷ []) 0 0) 0 ∷
    []

-- "For sheet A the whole output is"
abbrev pub listing_A : List ℕ
listing_A = text "queues 12 scale 4 least 0\n0: 0 0 1 1 2 1 1 1 2 2 2 2\n1: 0 0 0 1 2 1 1 1 2 2 2 2\n"

-- the listing
unfoldable pub cases_of_listings : List Case
cases_of_listings =
    lists (listing A 0 plan_A) listing_A ∷
    -- the scale is a power of W; bytes of one to three digits, and the two queues of a slot
    lists (listing (doubling 1 3) 907 (0 ∷ 1 ∷ 10 ∷ 99 ∷ 100 ∷ 255 ∷ [])) (text "queues 2 scale 8 least 907\n0: 0 1\n1: 10 99\n2: 100 255\n") ∷
    -- the largest number of 64 bits has 20 digits
    lists (decimal none64) (text "18446744073709551615") ∷
    lists (refused_line 12) (text "refused 12\n") ∷
    -- eleven: a buffer of 79, a plan of twelve; places past the length stay
    numbers (list A 0 plan_A (replicate 79 7)).number 11 ∷
    numbers (list A 0 plan_A (replicate 79 7)).written 0 ∷
    lists (list A 0 plan_A (replicate 79 7)).buffer (replicate 79 7) ∷
    numbers (list A 0 A0 (replicate 82 7)).number 11 ∷
    numbers (list A 0 plan_A (replicate 80 7)).number 0 ∷
    numbers (list A 0 plan_A (replicate 82 7)).written 80 ∷
    lists (list A 0 plan_A (replicate 82 7)).buffer (listing_A ++ (7 ∷ 7 ∷ [])) ∷
    numbers (list crowded 0 [] []).number 5 ∷
    []

-- the old rule, and prices

-- [2]: the rule's speeds on sheet A, the same in every slot
abbrev pub rule_A : List ℕ
rule_A = 0 ∷ 1 ∷ 1 ∷ 2 ∷ 2 ∷ 1 ∷ 1 ∷ 2 ∷ 2 ∷ 2 ∷ 2 ∷ 2 ∷ []

-- what it costs to follow them, from slot 0
abbrev pub prices_A0 : List ℕ
prices_A0 = 2 ∷ 6 ∷ 14 ∷ 26 ∷ 32 ∷ 6 ∷ 14 ∷ 26 ∷ 32 ∷ 18 ∷ 26 ∷ 32 ∷ []

-- what `rule` leaves and answers for sheet A, and `price` of what it left; the theorems over their contracts are rule_of_A and
-- price_of_rule_of_A of demands

pub record IsRuleOfA (bytes : List ℕ) (answer : RuleAnswer) : Type 0 where
  pub slot_0 : (i : ℕ) → i < 12 → get_or bytes i 0 ≡ get_or rule_A i 0
  pub slot_1 : (i : ℕ) → i < 12 → get_or bytes (12 + i) 0 ≡ get_or rule_A i 0
  pub answer_is : answer ≡ record { number = 0; queues = 12 }

pub record IsPriceOfRuleOfA (values : List ℕ) (answer : PriceAnswer) : Type 0 where
  pub slot_0 : (i : ℕ) → i < 12 → get_or values i 0 ≡ get_or prices_A0 i 0
  pub answer_is : answer ≡ record { number = 0; queues = 12; price = 2 }

-- sheet A's speeds; two units come in every slot, due within two slots or at once
abbrev pub hurried : View
hurried = of_A (job 1 2 2 ∷ job 1 2 1 ∷ [])

unfoldable pub cases_of_prices : List Case
cases_of_prices =
    ruled A rule_A ∷
    -- [2]: "On sheet A, with 01's free leftovers, the empty queue at slot 0 costs 2 by the rule and 0 by the planner"
    prices A (rule_A ++ rule_A) 0 (0 ∷ 0 ∷ []) (some 2) ∷
    valued A 0 (0 ∷ 0 ∷ []) (some 0) ∷
    priced A (rule_A ++ rule_A) 0 prices_A0 ∷
    -- [2]: "the planner's own plan is priced at exactly those values"; in the last row too
    priced A plan_A 0 values_A0 ∷
    priced A plan_A 1 values_A1 ∷
    priced A plan_A 2 (replicate 12 0) ∷
    -- the rule fails where the plan does not: at (0,2) it runs at 1, and two units that are due at once make three
    ruled hurried rule_A ∷
    prices hurried (rule_A ++ rule_A) 0 (0 ∷ 0 ∷ []) none ∷
    prices hurried (rule_A ++ rule_A) 1 (0 ∷ 2 ∷ []) none ∷
    prices hurried (rule_A ++ rule_A) 1 (2 ∷ 2 ∷ []) (some 8) ∷
    valued hurried 0 (0 ∷ 0 ∷ []) (some 16) ∷
    -- every u counts, not w(1) alone and not from w(2) on; "at least" is not "greater"
    tests (enough (0 ∷ 3 ∷ []) 1) false ∷
    tests (enough (2 ∷ 2 ∷ []) 1) false ∷
    tests (enough (1 ∷ 2 ∷ []) 1) true ∷
    -- of the sheet's speeds: 1 would be enough, and is not there
    ruled coarse (0 ∷ 2 ∷ 2 ∷ 2 ∷ 2 ∷ 2 ∷ 2 ∷ 2 ∷ 2 ∷ 2 ∷ 2 ∷ 2 ∷ []) ∷
    -- a byte that is no sheet speed, or is below w(1), leads to none from its own queue and from each that reaches it, and from no other
    prices A (damaged 2 255) 0 (0 ∷ 2 ∷ []) none ∷
    prices A (damaged 2 3) 0 (0 ∷ 2 ∷ []) none ∷
    prices A (damaged 5 0) 0 (1 ∷ 1 ∷ []) none ∷
    prices A (damaged 14 255) 0 (0 ∷ 0 ∷ []) none ∷
    prices A (damaged 14 255) 0 (2 ∷ 4 ∷ []) (some 32) ∷
    -- so does an inadmissible one, although it is no refusal: at (0,4) speed 1 leaves (3,3)
    prices A (damaged 4 1) 0 (0 ∷ 4 ∷ []) none ∷
    -- a dearer byte costs more: at (0,0) speed 1
    prices A (damaged 0 1) 0 (0 ∷ 0 ∷ []) (some 4) ∷
    []

unfoldable pub cases : List Case
cases =
    cases_P ++ (cases_of_plans ++ (cases_of_queues ++ (cases_of_refusals ++ (cases_of_bytes ++ (cases_of_steps ++ (cases_of_listings ++ cases_of_prices))))))
