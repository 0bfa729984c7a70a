-- What a search for straight code answers: words of the contracts of its parts.
use Rattle.std.specs.Prelude.{ℕ, List, map, Option, MatchOption, Vec}
use Rattle.std.specs.Borrow.{Bor}
use Rattle.std.specs.Global.{Global}
use Rattle.dj_straight.specs.trusted.Program.{Code, Method}
use Rattle.dj_straight.specs.declared.straight.code.StraightCode.{StraightCode}
use Rattle.dj_straight.specs.declared.program.StraightMethod.{StraightMethod}
use Rattle.dj_straight.specs.Methods.{straight_code, method_view}

-- what is found is such, seen by view, and where nothing is found nothing is such
abbrev pub Finds : {X Y : Type 0} → (X → Y) → (Y → Type 0) → Option X → Type 0
Finds {X} {Y} view IsSuch found = MatchOption found ((y : Y) → IsSuch y → ⊥) (λ x. IsSuch (view x))

abbrev pub found_code : StraightCode → Code
found_code c = straight_code c.max_stack c.max_locals c.actions.items

abbrev pub methods_view : Vec StraightMethod Global → List Method
methods_view methods = map method_view methods.items

abbrev pub now_of : Bor (List ℕ) → List ℕ
now_of b = b.now

abbrev pub names_view : Vec (Bor (List ℕ)) Global → List (List ℕ)
names_view names = map now_of names.items
