-- The reading of a whole sheet, to its end: what the two tables that were read say of the sheet in memory, and what 9 and 10 then answer.
use Rattle.std.proofs.Common.{ℕ, suc, ◌≡◌, ◌≤◌, List, true, length, refl, sym, ap, ◌∙◌, le-leb, Ok, Err}
use Rattle.std.proofs.Math.Path.{ap₂}
use Rattle.laws.proofs.Readers.{refused_no_value, value_same, fields_read}
use Rattle.laws.proofs.RoundTrip.{view_in_memory}
use Rattle.model.proofs.Refusal.{ranged}
use Rattle.model.specs.Reading.{Answer, value, refused, field, read_speed_table, read_job_table, judged, read_view, read}
use Rattle.model.specs.Refusal.{bound_right, horizon_right, fields_refusal, limits_refusal, N, value_limit}
use Rattle.model.specs.Tests.{padded}
use Rattle.model.specs.View.{View, view_with, view_of, zero_speed, zero_job, in_memory}
use Rattle.model.specs.declared.Job.{Job}
use Rattle.model.specs.declared.Sheet.{Sheet}
use Rattle.model.specs.declared.Speed.{Speed}
use Rattle.refusals.specs.Numbers.{number_of_refusal}
use Rattle.refusals.specs.declared.Refusal.{Refusal}
use Rattle.refusals.specs.declared.Refusal.TheVariants as refusal
use Rattle.reader.specs.Answers.{number_and_sheet}
use Rattle.tables.specs.Tables as tables

-- no refusal has the number 0
some_number : (e : Refusal) → (k : ℕ) × (number_of_refusal e ≡ suc k)
some_number = elim [
  | refusal.BytesEnd ↦ (_, refl)
  | refusal.NotShortest ↦ (_, refl)
  | refusal.BytesFollow ↦ (_, refl)
  | refusal.Bound ↦ (_, refl)
  | refusal.Speeds ↦ (_, refl)
  | refusal.Energy ↦ (_, refl)
  | refusal.Horizon ↦ (_, refl)
  | refusal.Jobs ↦ (_, refl)
  | refusal.Values ↦ (_, refl)
  | refusal.Queues ↦ (_, refl)
  | refusal.Room ↦ (_, refl)
  | refusal.NoWay ↦ (_, refl)
  | refusal.State ↦ (_, refl)
  | refusal.AtHorizon ↦ (_, refl)
  | refusal.NoEntry ↦ (_, refl)
  | refusal.PlanByte ↦ (_, refl)
  | refusal.NextQueue ↦ (_, refl)
  | refusal.EnergyTotal ↦ (_, refl)
]

-- the table that was read, of which this is what stands in memory
table_read : {A : Type 0} (n : ℕ) (z : A) (answer : Answer (List A)) {table : ℕ × List A} {next : ℕ} →
    value table next ≡ tables.in_memory n z answer →
    (l : List A) × (answer ≡ value l next) × (table ≡ (length l, padded n z l))
table_read n z (value l next') e = let (p, q) = value_same e in (l, ap (value l) (sym q), p)
table_read n z (refused k) e = absurd (refused_no_value (sym e))

-- the sheet that was read, as it stands in memory
abbrev pub memory_of : ℕ → ℕ × List Speed → ℕ → ℕ × List Job → Sheet
memory_of D speeds T jobs =
    record { bound = D; speed_count = speeds.0; speeds = speeds.1; horizon = T; job_count = jobs.0; jobs = jobs.1 }

-- a sheet in memory that was read to this end of the bytes: what it means, that it keeps every range, and that 9 and 10 are left
pub record IsWhole (bytes : List ℕ) (end : ℕ) (memory : Sheet) : Type 0 where
  pub view : View
  pub ranges : fields_refusal view ≡ 0
  pub stands : memory ≡ in_memory view
  pub counts : view_of memory ≡ view
  pub reads : read_view N bytes 0 ≡ judged N view bytes end

-- each field and both tables were read, and the fields passed their tests
whole_of : {bytes : List ℕ} {D T a b c d : ℕ} (speeds : List Speed) (jobs : List Job) {memory : Sheet} →
    value D a ≡ field bytes 0 → bound_right D ≡ true → read_speed_table bytes a ≡ value speeds b → value T c ≡ field bytes b →
    horizon_right T ≡ true → read_job_table D bytes c ≡ value jobs d → length bytes ≤ d → memory ≡ in_memory (view_with D speeds T jobs) →
    IsWhole bytes d memory
unfolding read_view
whole_of {bytes} {D} {T} {d = d} speeds jobs at_bound bound speeds_read at_horizon horizon jobs_read end stands =
    let view = view_with D speeds T jobs in
    let right = fields_read _ _ _ _ _ _ _ _ _ bound speeds_read horizon jobs_read in
    let r = ranged view right in
    record {
      view = view;
      ranges = right;
      stands = stands;
      counts = rw stands (view_in_memory view (record { speeds_counted = refl; jobs_counted = refl }) r.speeds_high r.jobs_high);
      reads = rw (← at_bound, bound, speeds_read, ← at_horizon, horizon, jobs_read, le-leb (length bytes) d end) refl;
    }

-- the same, by the tables as they stand in memory
pub whole : {bytes : List ℕ} {D T a b c d : ℕ} {speeds : ℕ × List Speed} {jobs : ℕ × List Job} →
    value D a ≡ field bytes 0 → bound_right D ≡ true → value speeds b ≡ tables.in_memory 9 zero_speed (read_speed_table bytes a) →
    value T c ≡ field bytes b → horizon_right T ≡ true → value jobs d ≡ tables.in_memory 32 zero_job (read_job_table D bytes c) →
    length bytes ≤ d → IsWhole bytes d (memory_of D speeds T jobs)
whole {D = D} {T = T} at_bound bound speeds_read at_horizon horizon jobs_read end =
    let (l, e, l_is) = table_read 9 zero_speed _ speeds_read in
    let (m, f, m_is) = table_read 32 zero_job _ jobs_read in
    whole_of l m at_bound bound e at_horizon horizon f end (ap₂ (λ p q. memory_of D p T q) l_is m_is)

module _ {bytes : List ℕ} {end : ℕ} {memory : Sheet} (w : IsWhole bytes end memory) where
  pub keeps_ranges : fields_refusal (view_of memory) ≡ 0
  keeps_ranges = ap fields_refusal w.counts ∙ w.ranges

  -- 9 and 10 pass
  pub accepted : 0 ≡ limits_refusal value_limit (N (view_of memory)) (view_of memory) → number_and_sheet (Ok memory) ≡ read bytes
  unfolding read judged
  accepted e = let none = rw w.counts at e in rw (w.reads, ← none) (ap (λ m. record { number = 0; sheet = m }) w.stands)

  -- 9 or 10 refuses
  pub refused_by : (e : Refusal) → number_of_refusal e ≡ limits_refusal value_limit (N (view_of memory)) (view_of memory) →
      number_and_sheet (Err e) ≡ read bytes
  unfolding read judged
  refused_by e f = let some = rw w.counts at f in let (k, is) = some_number e in rw (w.reads, ← some, is) refl
