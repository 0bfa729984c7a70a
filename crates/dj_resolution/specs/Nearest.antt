-- The nearest of the classes that declare a member: of those above a class, the one of the highest rank.
use Rattle.std.specs.Prelude.{◌≡◌, ℕ, ◌<◌, ◌≤◌, true, false, List, Option, Some, None, ltb, if◌then◌else◌, get_or}
use Rattle.dj_resolution.specs.Bits.{in_bits}
use Rattle.dj_member_index.specs.declared.rows.MemberRow.{MemberRow}
use Rattle.dj_resolution.specs.declared.nearest.Near.{Near}
use Rattle.dj_resolution.specs.Numbers.{has}
use Rattle.dj_resolution.specs.Ranked.{rank_in}

-- the class of the row with its rank, or it isn't among those above
abbrev pub IsNear : List ℕ → List ℕ → MemberRow → Option Near → Type 0
IsNear above ranks row None = has above row.class ≡ false
IsNear above ranks row (Some near) = (has above row.class ≡ true) × ((near.class ≡ row.class) × (near.rank ≡ rank_in ranks row.class) × (near.member ≡ row.place))

-- of the classes above, the class of one of the first n rows, of which none has a higher rank
pub record HasNearest (above ranks : List ℕ) (rows : List MemberRow) (count : ℕ) (near : Near) : Type 0 where
  pub at : ℕ
  pub row : MemberRow
  pub before : at < count
  pub row_is : get_or rows at row ≡ row
  pub class_is : near.class ≡ row.class
  pub member_is : near.member ≡ row.place
  pub among : has above near.class ≡ true
  pub rank_is : near.rank ≡ rank_in ranks near.class
  pub highest : (k : ℕ) (other : MemberRow) → k < count → get_or rows k other ≡ other → has above other.class ≡ true → rank_in ranks other.class ≤ near.rank

-- the same, or none of them is above
abbrev pub IsNearest : List ℕ → List ℕ → List MemberRow → ℕ → Option Near → Type 0
IsNearest above ranks rows count None = (k : ℕ) (other : MemberRow) → k < count → get_or rows k other ≡ other → has above other.class ≡ false
IsNearest above ranks rows count (Some near) = HasNearest above ranks rows count near

-- of two the one with the higher rank
abbrev pub nearer : Option Near → Option Near → Option Near
nearer None other = other
nearer (Some near) None = Some near
nearer (Some near) (Some other) = if ltb near.rank other.rank then Some other else Some near

-- of the classes above whose ranks are marked, this one has the highest rank
pub record IsNearMarked (above ranks marks : List ℕ) (near : ℕ) : Type 0 where
  pub among : has above near ≡ true
  pub marked : in_bits marks (rank_in ranks near) ≡ true
  pub highest : (class : ℕ) → has above class ≡ true → in_bits marks (rank_in ranks class) ≡ true → rank_in ranks class ≤ rank_in ranks near

-- the same, or none of those above is marked
abbrev pub IsNearestMarked : List ℕ → List ℕ → List ℕ → Option ℕ → Type 0
IsNearestMarked above ranks marks None = (class : ℕ) → has above class ≡ true → in_bits marks (rank_in ranks class) ≡ false
IsNearestMarked above ranks marks (Some near) = IsNearMarked above ranks marks near
