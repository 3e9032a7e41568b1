-- Document 01, "Worked sheet and its listing": the bytes of the listing of a planned sheet, what the call that writes them leaves, and the
-- line that the planning program writes for a refusal.
use Rattle.std.specs.Prelude.{ℕ, zero, suc, ◌+◌, ◌*◌, ◌-◌, ◌^◌, ◌/◌, ◌%◌, cond, ◌&&◌, List, [], ◌∷◌, ◌++◌, leb, ltb, length}
use Prim.Native.Char.{code as character_code}
use Prim.Native.String.{String, [] as [·], ◌∷◌ as ◌·∷◌}
use Rattle.model.specs.Bytes.{Written, written}
use Rattle.model.specs.View.{View, W}
use Rattle.model.specs.Plan.{byte_at, plan_needed}
use Rattle.model.specs.Refusal.{sheet_lines, N, value_limit}
use Rattle.model.specs.Tests.{Lines, line, ◌⨾◌, first_of, in_turn}

-- a text's characters, each by its code
abbrev pub text : String → List ℕ
text [·] = []
text (c ·∷ s) = character_code c ∷ text s

-- a digit's character: 0 is 48
abbrev pub digit : ℕ → ℕ
digit d = 48 + d

-- the number that digits say, the highest first, where the digits before them said `so`
abbrev pub said : ℕ → List ℕ → ℕ
said so [] = so
said so (c ∷ l) = said (10 * so + (c - digit 0)) l

-- a number in at most n digits, the highest first, and no zero before them
unfoldable pub digits_in : ℕ → ℕ → List ℕ
digits_in zero x = []
digits_in (suc n) x = cond (ltb x 10) (digit x ∷ []) (digits_in n (x / 10) ++ digit (x % 10) ∷ [])

-- in at most 20 digits: enough for every number below 10^20, and so for every number of 64 bits
abbrev pub decimal : ℕ → List ℕ
decimal x = digits_in 20 x

-- "W to the power T"
abbrev pub scale_of : View → ℕ
scale_of s = W s ^ s.horizon

-- "The header has N, W to the power T, and the empty queue's value at slot 0": `queues`, `scale` and `least`
unfoldable pub header : (queues scale least : ℕ) → List ℕ
header queues scale least =
    text "queues " ++
    (decimal queues ++
    (text " scale " ++
    (decimal scale ++
    (text " least " ++
    (decimal least ++ text "\n")))))

-- the first n of these plan bytes in order, each after a space
unfoldable pub bytes_listed : (byte_at : ℕ → ℕ) → ℕ → List ℕ
bytes_listed byte_at n = in_turn (λ i. text " " ++ decimal (byte_at i)) n

-- "Each further line has the slot, a colon and the plan byte of each queue in order. A line feed ends every line"
unfoldable pub line_of : (slot : ℕ) → (byte_at : ℕ → ℕ) → (queues : ℕ) → List ℕ
line_of slot byte_at queues = decimal slot ++ (text ":" ++ (bytes_listed byte_at queues ++ text "\n"))

-- the line of slot t
abbrev pub line_of_slot : View → List ℕ → ℕ → List ℕ
line_of_slot s plan t = line_of t (byte_at s plan t) (N s)

-- the listing of a sheet whose plan these bytes are, and whose empty queue has the value `least` at slot 0
unfoldable pub listing : View → (least : ℕ) → (plan : List ℕ) → List ℕ
listing s least plan = header (N s) (scale_of s) least ++ in_turn (line_of_slot s plan) s.horizon

-- "writes either `refused n`, for any number but 0, or the listing": the line of a refusal
unfoldable pub refused_line : ℕ → List ℕ
refused_line number = text "refused " ++ (decimal number ++ text "\n")

-- 4 to 10, then "11: a lent buffer shorter than needed": the plan, T times N bytes, or the buffer for the listing, of length `room`
unfoldable pub list_lines : View → (least : ℕ) → (plan : List ℕ) → (room : ℕ) → Lines
list_lines s least plan room = sheet_lines value_limit s ⨾ line 11 (leb (plan_needed s) (length plan) && leb (length (listing s least plan)) room)

abbrev pub list_refusal : View → (least : ℕ) → (plan : List ℕ) → (room : ℕ) → ℕ
list_refusal s least plan room = first_of (list_lines s least plan room)

-- what the call answers, and what it leaves in the lent buffer
unfoldable pub list : View → (least : ℕ) → (plan buffer : List ℕ) → Written
list s least plan buffer = written (list_refusal s least plan (length buffer)) (listing s least plan) buffer
