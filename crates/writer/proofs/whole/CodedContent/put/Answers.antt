-- `put` meets its contract: its six parts are put in turn, and each has room, since all of them have.
use Rattle.std.proofs.Common.{◌≡◌, ℕ, List, ◌++◌, length, sym, subst, arith, rules}
use Rattle.std.specs.List.{All, flat_map}
use Rattle.std.proofs.lemmas.List.Elements.{All-same, All-from_get_or}
use Rattle.model.proofs.Refusal.{ranged}
use Rattle.model.specs.Bytes.{code, speed_code, job_code, speed_bytes, job_bytes, sheet_bytes}
use Rattle.model.specs.View.{View, view_of, zero_speed, zero_job}
use Rattle.model.specs.Refusal.{fields_refusal}
use Rattle.model.specs.declared.Job.{Job}
use Rattle.model.specs.declared.Sheet.{Sheet}
use Rattle.model.specs.declared.Speed.{Speed}
use Rattle.limits.proofs.Places.{speeds_counted, jobs_counted}
use Rattle.sinks.specs.Laws.{Takes}
use Rattle.sinks.proofs.Parts.{room_first, room_then}
use Rattle.writer.specs.Short.{SpeedShort, JobShort}
use Rattle.writer.proofs.Lengths.{speed_short, job_short}
use Rattle.writer.proofs.Tables.{speeds_put, jobs_put}
use Rattle.writer.proofs.whole.CodedContent.put.Goals as goal

-- a sheet's bytes from a part on

abbrev from_job_count : View → List ℕ
from_job_count s = code s.job_count ++ job_bytes s s.job_count

abbrev from_horizon : View → List ℕ
from_horizon s = code s.horizon ++ from_job_count s

abbrev from_speeds : View → List ℕ
from_speeds s = speed_bytes s s.speed_count ++ from_horizon s

abbrev from_speed_count : View → List ℕ
from_speed_count s = code s.speed_count ++ from_speeds s

-- there is room from each part on, once those before it are put
module _ {A : Type 0} {HasRoom : A → ℕ → Type 0} {Puts : A → List ℕ → A → Type 0} (takes : Takes HasRoom Puts) (s : View) {t0 : A}
    (room : HasRoom t0 (length (sheet_bytes s))) where
  room0 : HasRoom t0 (length (code s.bound ++ from_speed_count s))
  unfolding sheet_bytes
  room0 = room

  module _ {t1 : A} (put1 : Puts t0 (code s.bound) t1) where
    room1 : HasRoom t1 (length (from_speed_count s))
    room1 = room_then takes (code s.bound) (from_speed_count s) put1 room0

    module _ {t2 : A} (put2 : Puts t1 (code s.speed_count) t2) where
      room2 : HasRoom t2 (length (from_speeds s))
      room2 = room_then takes (code s.speed_count) (from_speeds s) put2 room1

      module _ {t3 : A} (put3 : Puts t2 (speed_bytes s s.speed_count) t3) where
        room3 : HasRoom t3 (length (from_horizon s))
        room3 = room_then takes (speed_bytes s s.speed_count) (from_horizon s) put3 room2

        module _ {t4 : A} (put4 : Puts t3 (code s.horizon) t4) where
          room4 : HasRoom t4 (length (from_job_count s))
          room4 = room_then takes (code s.horizon) (from_job_count s) put4 room3

          module _ {t5 : A} (put5 : Puts t4 (code s.job_count) t5) where
            room5 : HasRoom t5 (length (job_bytes s s.job_count))
            room5 = room_then takes (code s.job_count) (job_bytes s s.job_count) put5 room4

            all : {t6 : A} → Puts t5 (job_bytes s s.job_count) t6 → Puts t0 (sheet_bytes s) t6
            unfolding sheet_bytes
            all put6 =
                takes.more _ _ _ (code s.bound) (from_speed_count s) put1
                (takes.more _ _ _ (code s.speed_count) (from_speeds s) put2
                (takes.more _ _ _ (speed_bytes s s.speed_count) (from_horizon s) put3
                (takes.more _ _ _ (code s.horizon) (from_job_count s) put4
                (takes.more _ _ _ (code s.job_count) (job_bytes s s.job_count) put5 put6))))

-- each entry of the tables that are lent has its codes, and together they are the tables' bytes

module _ (sheet : Sheet) (right : fields_refusal (view_of sheet) ≡ 0) where
  module _ (long : length sheet.speeds ≡ 9) {l : List Speed} (lent : l ≡ (view_of sheet).speeds) where
    counted : length (view_of sheet).speeds ≡ sheet.speed_count
    counted = speeds_counted sheet long (ranged (view_of sheet) right).speeds_high

    speeds_short : All SpeedShort l
    speeds_short =
        All-same SpeedShort l (view_of sheet).speeds lent
        (All-from_get_or SpeedShort (view_of sheet).speeds zero_speed (λ j h. speed_short (view_of sheet) right j (omega (arith, counted))))

    speeds_bytes : flat_map speed_code l ≡ speed_bytes (view_of sheet) sheet.speed_count
    speeds_bytes = rw lent (speeds_put (view_of sheet) counted)

  module _ (long : length sheet.jobs ≡ 32) {l : List Job} (lent : l ≡ (view_of sheet).jobs) where
    jobs_are : length (view_of sheet).jobs ≡ sheet.job_count
    jobs_are = jobs_counted sheet long (ranged (view_of sheet) right).jobs_high

    jobs_short : All JobShort l
    jobs_short =
        All-same JobShort l (view_of sheet).jobs lent
        (All-from_get_or JobShort (view_of sheet).jobs zero_job (λ i h. job_short (view_of sheet) right i (omega (arith, jobs_are))))

    jobs_bytes : flat_map job_code l ≡ job_bytes (view_of sheet) sheet.job_count
    jobs_bytes = rw lent (jobs_put (view_of sheet) jobs_are)

-- what was put is another list, which is the same
put_same : {A : Type 0} (Puts : A → List ℕ → A → Type 0) {s t : A} {l m : List ℕ} → l ≡ m → Puts s l t → Puts s m t
put_same Puts {s} {t} e put = subst (λ (l : List ℕ). Puts s l t) e put

room_same : {A : Type 0} (HasRoom : A → ℕ → Type 0) {s : A} {l m : List ℕ} → l ≡ m → HasRoom s (length m) → HasRoom s (length l)
room_same HasRoom {s} e room = subst (λ (l : List ℕ). HasRoom s (length l)) (sym e) room

pub put_number-requires : goal.put_number-requires
put_number-requires g c =
    let takes = g.met.S.Sink.takes in
    let s = view_of c.args.self.sheet.sheet in
    let r = ranged s c.args.self.sheet.fields in
    (omega (arith, r.bound_high), room_first takes (code s.bound) (from_speed_count s) (room0 takes s c.requires))

pub put_number-requires-2 : goal.put_number-requires-2
put_number-requires-2 g c =
    let takes = g.met.S.Sink.takes in
    let s = view_of c.args.self.sheet.sheet in
    let r = ranged s c.args.self.sheet.fields in
    (omega (arith, r.speeds_high), room_first takes (code s.speed_count) (from_speeds s) (room1 takes s c.requires c.put_number.ensures))

pub speeds-requires : goal.speeds-requires
speeds-requires g c = (ranged (view_of c.args.self.sheet.sheet) c.args.self.sheet.fields).speeds_high

pub put_entries-requires : goal.put_entries-requires
put_entries-requires g c =
    let takes = g.met.S.Sink.takes in
    let one = c.args.self.sheet in
    let s = view_of one.sheet in
    let long : length one.sheet.speeds ≡ 9 = search rules in (
      speeds_short one.sheet one.fields long c.speeds.ensures.lent,
      room_same g.S.Sink.HasRoom (speeds_bytes one.sheet one.fields long c.speeds.ensures.lent)
          (room_first takes (speed_bytes s s.speed_count) (from_horizon s) (room2 takes s c.requires c.put_number.ensures c.put_number-2.ensures)),
    )

pub put_number-requires-3 : goal.put_number-requires-3
put_number-requires-3 g c =
    let takes = g.met.S.Sink.takes in
    let one = c.args.self.sheet in
    let s = view_of one.sheet in
    let r = ranged s one.fields in
    let long : length one.sheet.speeds ≡ 9 = search rules in
    let speeds = put_same g.S.Sink.Puts (speeds_bytes one.sheet one.fields long c.speeds.ensures.lent) c.put_entries.ensures in (
      omega (arith, r.horizon_high),
      room_first takes (code s.horizon) (from_job_count s) (room3 takes s c.requires c.put_number.ensures c.put_number-2.ensures speeds),
    )

pub put_number-requires-4 : goal.put_number-requires-4
put_number-requires-4 g c =
    let takes = g.met.S.Sink.takes in
    let one = c.args.self.sheet in
    let s = view_of one.sheet in
    let r = ranged s one.fields in
    let long : length one.sheet.speeds ≡ 9 = search rules in
    let speeds = put_same g.S.Sink.Puts (speeds_bytes one.sheet one.fields long c.speeds.ensures.lent) c.put_entries.ensures in (
      omega (arith, r.jobs_high),
      room_first takes (code s.job_count) (job_bytes s s.job_count)
          (room4 takes s c.requires c.put_number.ensures c.put_number-2.ensures speeds c.put_number-3.ensures),
    )

pub jobs-requires : goal.jobs-requires
jobs-requires g c = (ranged (view_of c.args.self.sheet.sheet) c.args.self.sheet.fields).jobs_high

pub put_entries-requires-2 : goal.put_entries-requires-2
put_entries-requires-2 g c =
    let takes = g.met.S.Sink.takes in
    let one = c.args.self.sheet in
    let s = view_of one.sheet in
    let long : length one.sheet.speeds ≡ 9 = search rules in
    let long_jobs : length one.sheet.jobs ≡ 32 = search rules in
    let speeds = put_same g.S.Sink.Puts (speeds_bytes one.sheet one.fields long c.speeds.ensures.lent) c.put_entries.ensures in (
      jobs_short one.sheet one.fields long_jobs c.jobs.ensures.lent,
      room_same g.S.Sink.HasRoom (jobs_bytes one.sheet one.fields long_jobs c.jobs.ensures.lent)
          (room5 takes s c.requires c.put_number.ensures c.put_number-2.ensures speeds c.put_number-3.ensures c.put_number-4.ensures),
    )

pub returns : goal.returns
returns g c =
    let takes = g.met.S.Sink.takes in
    let one = c.args.self.sheet in
    let s = view_of one.sheet in
    let long : length one.sheet.speeds ≡ 9 = search rules in
    let long_jobs : length one.sheet.jobs ≡ 32 = search rules in
    let speeds = put_same g.S.Sink.Puts (speeds_bytes one.sheet one.fields long c.speeds.ensures.lent) c.put_entries.ensures in
    let jobs = put_same g.S.Sink.Puts (jobs_bytes one.sheet one.fields long_jobs c.jobs.ensures.lent) c.put_entries-2.ensures in
    all takes s c.requires c.put_number.ensures c.put_number-2.ensures speeds c.put_number-3.ensures c.put_number-4.ensures jobs
