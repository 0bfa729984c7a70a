-- What is faulty at a place: the first item that is not there whole, or that its place does not allow. A fault is a relation between the place
-- and what is reported; the items before the faulty one are whole and good.
use Rattle.std.specs.Prelude.{◌≡◌, ℕ, ◌+◌, ◌^◌, ◌<◌, ◌⊎◌, List, [], ◌++◌, length}
use Rattle.std.specs.List.{flat_map, AllByRecursion}
use Rattle.dj_cursor.specs.trusted.Spelling.{u2}
use Rattle.dj_cursor.specs.Reading.{Cursor}

-- where the reader is after these bytes, with this left
abbrev pub after : Cursor → List ℕ → List ℕ → Cursor
after c bytes rest = record { place = c.place + length bytes; rest = rest }

-- an item of this many bytes begins here, and not all of them are there
pub record IsCut {E : Type 0} (cut : ℕ → E) (n : ℕ) (c : Cursor) (e : E) : Type 0 where
  pub short : length c.rest < n
  pub reported : e ≡ cut c.place

-- an item begins here, all of it is there, and its place does not allow its value
pub record IsDenied {A E : Type 0} (bytes_of : A → List ℕ) (IsItem : A → Type 0) (IsAllowed : A → Type 0) (denied : ℕ → E) (c : Cursor) (e : E) : Type 0 where
  pub value : A
  pub rest : List ℕ
  pub parts : c.rest ≡ bytes_of value ++ rest
  pub item : IsItem value
  pub wrong : IsAllowed value → ⊥
  pub reported : e ≡ denied c.place

-- a part begins here, whole and good, and what follows it is faulty
pub record IsAfter {A E : Type 0} (bytes_of : A → List ℕ) (IsGood : A → Type 0) (Fault : A → Cursor → E → Type 0) (c : Cursor) (e : E) : Type 0 where
  pub value : A
  pub rest : List ℕ
  pub parts : c.rest ≡ bytes_of value ++ rest
  pub good : IsGood value
  pub fault : Fault value (after c (bytes_of value) rest) e

-- good parts begin here, fewer than this many, and the next is faulty
pub record IsAmong {A E : Type 0} (bytes_of : A → List ℕ) (IsGood : A → Type 0) (Fault : Cursor → E → Type 0) (n : ℕ) (c : Cursor) (e : E) : Type 0 where
  pub prefix : List A
  pub rest : List ℕ
  pub parts : c.rest ≡ flat_map bytes_of prefix ++ rest
  pub good : AllByRecursion IsGood prefix
  pub fewer : length prefix < n
  pub fault : Fault (after c (flat_map bytes_of prefix) rest) e

-- a part is faulty, or it is good and what follows it is faulty
abbrev pub InTurn : {A E : Type 0} → (Cursor → E → Type 0) → (A → List ℕ) → (A → Type 0) → (A → Cursor → E → Type 0) → Cursor → E → Type 0
InTurn Fault bytes_of IsGood Later c e = Fault c e ⊎ IsAfter bytes_of IsGood Later c e

-- a number of two bytes
abbrev pub Fits2 : ℕ → Type 0
Fits2 n = n < 2 ^ 16

-- a number of four bytes
abbrev pub Fits4 : ℕ → Type 0
Fits4 n = n < 2 ^ 32

-- as many parts as a count of two bytes can count, each of them good
abbrev pub AreFew : {A : Type 0} → (A → Type 0) → List A → Type 0
AreFew IsGood parts = (length parts < 2 ^ 16) × AllByRecursion IsGood parts

-- a table: its count of two bytes is cut, or one of this many parts is faulty
abbrev pub InTable : {A E : Type 0} → (ℕ → E) → (A → List ℕ) → (A → Type 0) → (Cursor → E → Type 0) → Cursor → E → Type 0
InTable cut bytes_of IsGood Fault = InTurn (IsCut cut 2) u2 Fits2 (IsAmong bytes_of IsGood Fault)

-- a fault of a part, as one of the whole
pub record IsLifted {D E : Type 0} (up : D → E) (Fault : Cursor → D → Type 0) (c : Cursor) (e : E) : Type 0 where
  pub part : D
  pub fault : Fault c part
  pub reported : e ≡ up part

-- nothing else was to come, and these bytes are left
pub record IsLeft {E : Type 0} (left : ℕ → E) (c : Cursor) (e : E) : Type 0 where
  pub some : c.rest ≡ [] → ⊥
  pub reported : e ≡ left c.place
