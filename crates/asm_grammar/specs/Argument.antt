-- The words of verbs, which spaces and tabs alone part: each is taken whole, byte by byte, from one stage to the next.
use Rattle.std.specs.Prelude.{ℕ, ◌+◌, ◌-◌, ◌*◌, ◌^◌, Bool, true, false, ◌&&◌, ◌||◌, ◌==◌, not, nat_le, nat_lt, List, [], ◌∷◌, Option, Some, None, if◌then◌else◌}
use Rattle.asm_grammar.specs.Bytes.{is_digit_byte, is_letter_byte, is_word}

-- the kinds of words that say their own bytes
pub data TextKind : Type 0 where
  -- a name, as in statements
  PlainName : TextKind
  -- a path in a group: + alone, + and a group's name and parts behind /, or parts alone with / between
  GroupPath : TextKind
  -- the same, where a part may hold *
  PathPattern : TextKind
  -- the same, but not -l
  NotLong : TextKind
  -- one part that may hold *
  PartPattern : TextKind
  -- a path outside, which begins with / or ./
  HostPath : TextKind

pub data Kind : Type 0 where
  -- these bytes
  Exact : List ℕ → Kind
  -- bytes of a kind
  Text : TextKind → Kind
  -- a number, as in statements
  PlainNumber : Kind
  -- a size, as in statements
  Sized : Kind
  -- an even number of hexadecimal digits
  HexBytes : Kind
  -- two hexadecimal digits
  HexByte : Kind

-- what a word of the kind says: nothing, its bytes, a number, or the bytes that its digits stand for
abbrev pub ArgumentMeaning : Kind → Type 0
ArgumentMeaning (Exact bytes) = Unit {0}
ArgumentMeaning (Text t) = List ℕ
ArgumentMeaning PlainNumber = ℕ
ArgumentMeaning Sized = ℕ
ArgumentMeaning HexBytes = List ℕ
ArgumentMeaning HexByte = ℕ

-- which parts a path may have
pub data Parts : Type 0 where
  -- parts without *, and / between them
  Plain : Parts
  -- parts with *, and / between them
  Starred : Parts
  -- one part, with *
  Single : Parts

-- how far a word has come
pub data Stage : Type 0 where
  -- these bytes have to come
  Rest : List ℕ → Stage
  NameStart : Stage
  -- a name of so many bytes
  Letters : ℕ → Stage
  NumberStart : Stage
  -- digits that spell the number
  Digits : ℕ → Stage
  SizeStart : Stage
  SizeDigits : ℕ → Stage
  -- a size with its letter
  Lettered : ℕ → Stage
  PathStart : Parts → Stage
  -- + alone
  Plus : Parts → Stage
  -- + and so many bytes of a group's name
  GroupName : Parts → ℕ → Stage
  -- a part has to begin
  Slash : Parts → Stage
  -- a part that is one dot
  Dot : Parts → Stage
  -- so many bytes of a part
  Part : Parts → ℕ → Stage
  NotLongStart : Stage
  -- - alone
  Dash : Stage
  -- -l alone
  DashL : Stage
  OutsideStart : Stage
  OutsideDot : Stage
  OutsidePath : Stage
  -- no digit, and whether more than two may come
  HexStart : Bool → Stage
  -- the first digit of a byte
  Half : Bool → Stage
  -- whole bytes
  Whole : Bool → Stage

abbrev pub text_start : TextKind → Stage
text_start PlainName = NameStart
text_start GroupPath = PathStart Plain
text_start PathPattern = PathStart Starred
text_start NotLong = NotLongStart
text_start PartPattern = Slash Single
text_start HostPath = OutsideStart

abbrev pub first_stage : Kind → Stage
first_stage (Exact bytes) = Rest bytes
first_stage (Text t) = text_start t
first_stage PlainNumber = NumberStart
first_stage Sized = SizeStart
first_stage HexBytes = HexStart true
first_stage HexByte = HexStart false

abbrev pub has_stars : Parts → Bool
has_stars Plain = false
has_stars Starred = true
has_stars Single = true

abbrev pub has_slashes : Parts → Bool
has_slashes Plain = true
has_slashes Starred = true
has_slashes Single = false

-- letters, digits, _, $, #, -, . and, where it may stand, *
abbrev pub is_path_byte : Parts → ℕ → Bool
is_path_byte parts b = is_word b || (b == 45) || (b == 46) || (has_stars parts && (b == 42))

-- what can be seen of ASCII
abbrev pub is_visible : ℕ → Bool
is_visible b = nat_le 33 b && nat_le b 126

abbrev pub is_hex : ℕ → Bool
is_hex b = is_digit_byte b || (nat_le 65 b && nat_le b 70) || (nat_le 97 b && nat_le b 102)

-- what a letter behind a size stands for, and 0 where it is none
abbrev pub factor : ℕ → ℕ
factor b = if b == 75 then 2 ^ 10 else if b == 77 then 2 ^ 20 else if b == 71 then 2 ^ 30 else if b == 84 then 2 ^ 40 else 0

abbrev pub part_begins : Parts → ℕ → Option Stage
part_begins parts b = if b == 46 then Some (Dot parts) else if is_path_byte parts b then Some (Part parts 1) else None

abbrev pub part_goes_on : Parts → ℕ → ℕ → Option Stage
part_goes_on parts n b =
    if has_slashes parts && (b == 47) then Some (Slash parts)
    else if is_path_byte parts b && nat_lt n 80 then Some (Part parts (n + 1)) else None

-- The stage behind one more byte. None where no word goes on so.
abbrev pub step : Stage → ℕ → Option Stage
step (Rest []) b = None
step (Rest (c ∷ bytes)) b = if b == c then Some (Rest bytes) else None
step NameStart b = if is_letter_byte b then Some (Letters 1) else None
step (Letters n) b = if is_word b && nat_lt n 30 then Some (Letters (n + 1)) else None
step NumberStart b = if is_digit_byte b then Some (Digits (b - 48)) else None
step (Digits n) b = if is_digit_byte b && nat_lt (n * 10 + (b - 48)) (2 ^ 64) then Some (Digits (n * 10 + (b - 48))) else None
step SizeStart b = if is_digit_byte b then Some (SizeDigits (b - 48)) else None
step (SizeDigits n) b =
    if is_digit_byte b && nat_lt (n * 10 + (b - 48)) (2 ^ 64) then Some (SizeDigits (n * 10 + (b - 48)))
    else if not (factor b == 0) && nat_lt (n * factor b) (2 ^ 64) then Some (Lettered (n * factor b)) else None
step (Lettered n) b = None
step (PathStart parts) b = if b == 43 then Some (Plus parts) else part_begins parts b
step (Plus parts) b = if is_letter_byte b then Some (GroupName parts 1) else None
step (GroupName parts n) b = if b == 47 then Some (Slash parts) else if is_word b && nat_lt n 30 then Some (GroupName parts (n + 1)) else None
step (Slash parts) b = part_begins parts b
step (Dot parts) b = if is_path_byte parts b then Some (Part parts 2) else None
step (Part parts n) b = part_goes_on parts n b
step NotLongStart b = if b == 45 then Some Dash else if b == 43 then Some (Plus Starred) else part_begins Starred b
step Dash b = if b == 108 then Some DashL else part_goes_on Starred 1 b
step DashL b = part_goes_on Starred 2 b
step OutsideStart b = if b == 47 then Some OutsidePath else if b == 46 then Some OutsideDot else None
step OutsideDot b = if b == 47 then Some OutsidePath else None
step OutsidePath b = if is_visible b then Some OutsidePath else None
step (HexStart more) b = if is_hex b then Some (Half more) else None
step (Half more) b = if is_hex b then Some (Whole more) else None
step (Whole more) b = if more && is_hex b then Some (Half more) else None

-- a word may end there
abbrev pub ends_at : Stage → Bool
ends_at (Rest []) = true
ends_at (Rest (b ∷ bytes)) = false
ends_at NameStart = false
ends_at (Letters n) = true
ends_at NumberStart = false
ends_at (Digits n) = true
ends_at SizeStart = false
ends_at (SizeDigits n) = true
ends_at (Lettered n) = true
ends_at (PathStart parts) = false
ends_at (Plus parts) = true
ends_at (GroupName parts n) = true
ends_at (Slash parts) = false
ends_at (Dot parts) = false
ends_at (Part parts n) = true
ends_at NotLongStart = false
ends_at Dash = true
ends_at DashL = false
ends_at OutsideStart = false
ends_at OutsideDot = false
ends_at OutsidePath = true
ends_at (HexStart more) = false
ends_at (Half more) = false
ends_at (Whole more) = true

abbrev pub onward : {A : Type 0} → A → (Stage → A) → Option Stage → A
onward none some None = none
onward none some (Some s) = some s

-- The stage behind these bytes. None where no word goes on so.
abbrev pub reached : Stage → List ℕ → Option Stage
reached s [] = Some s
reached s (b ∷ bytes) = onward None (λ t. reached t bytes) (step s b)

-- How many of these bytes a word may go on with.
abbrev pub near_from : Stage → List ℕ → ℕ
near_from s [] = 0
near_from s (b ∷ bytes) = onward 0 (λ t. near_from t bytes + 1) (step s b)

-- the bytes from this stage on end a word
abbrev pub accepts : Stage → List ℕ → Bool
accepts s bytes = onward false ends_at (reached s bytes)

-- The bytes are a word of the kind.
abbrev pub is_of : Kind → List ℕ → Bool
is_of k bytes = accepts (first_stage k) bytes

-- the number that digits spelt, a letter behind them counted
abbrev pub spelt_number : Stage → ℕ
spelt_number (Digits n) = n
spelt_number (SizeDigits n) = n
spelt_number (Lettered n) = n
spelt_number other = 0

abbrev pub hex_value : ℕ → ℕ
hex_value b = if is_digit_byte b then b - 48 else if nat_le b 70 then b - 55 else b - 87

-- the bytes that pairs of hexadecimal digits stand for
abbrev pub hex_bytes : List ℕ → List ℕ
hex_bytes [] = []
hex_bytes (b ∷ []) = []
hex_bytes (b ∷ c ∷ bytes) = (hex_value b * 16 + hex_value c) ∷ hex_bytes bytes

abbrev pub first_byte_of : List ℕ → ℕ
first_byte_of [] = 0
first_byte_of (b ∷ bytes) = b

-- what the bytes say that ended at this stage
abbrev pub says : (k : Kind) → List ℕ → Stage → ArgumentMeaning k
says (Exact k) bytes s = tt
says (Text t) bytes s = bytes
says PlainNumber bytes s = spelt_number s
says Sized bytes s = spelt_number s
says HexBytes bytes s = hex_bytes bytes
says HexByte bytes s = first_byte_of (hex_bytes bytes)

abbrev pub said_at : {A : Type 0} → (Stage → A) → Stage → Option A
said_at say s = if ends_at s then Some (say s) else None

-- What the bytes say as a word of the kind. None where they are none.
abbrev pub argument_of : (k : Kind) → List ℕ → Option (ArgumentMeaning k)
argument_of k bytes = onward None (λ s. said_at (λ t. says k bytes t) s) (reached (first_stage k) bytes)
