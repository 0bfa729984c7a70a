-- Ranges too many for a method, and frames with too many types; and a class in which all fits.
use Rattle.std.proofs.Common.{◌≡◌, ℕ, zero, suc, ◌+◌, ◌≤◌, Bool, true, cond, pos, List, [], ◌∷◌, ◌++◌, length, take, Contains, Option, Some, None, slice_get, codes, refl, sym, ap, ◌∙◌, subst, inl, inr, arith}
use Rattle.std.specs.List.{count_by, AllByRecursion}
use Rattle.std.proofs.lemmas.Bool.{cases_lt}
use Rattle.std.proofs.lemmas.List.{length-take-le, take_all}
use Rattle.std.proofs.lemmas.List.Elements.{Contains-append_right}
use Rattle.std.proofs.lemmas.List.Sums.{count_by-le-length, sum_by-cons, sum_by-append}
use Rattle.dj_asm_source.specs.trusted.Lines.{FrameType, Frame, Same, Full, Plain, Aside, Catch, Line, Beside, Framed, End}
use Rattle.dj_asm_source.specs.trusted.Sources.{Source, BodyPart, MethodSource, Mark, FrameStep, Coded, body_lines, method_lines, lines_of}
use Rattle.dj_asm_source.specs.trusted.Labels.{AreMethodLines}
use Rattle.dj_asm_pool.specs.trusted.Entries.{Utf8, Class, each_once, index_of}
use Rattle.dj_asm_pool.specs.trusted.Needs.{Need, needs_of, methods_needs, index_in}
use Rattle.dj_asm_pool.specs.trusted.Room.{HasRoom}
use Rattle.dj_asm_pool.proofs.Members.{each_in, in_here}
use Rattle.dj_asm.specs.trusted.Large.{is_interface, is_field, is_method, is_catch, count_before, IsMethodLine, IsPastCatches, HasLongLists, IsLongFrame, IsTooLarge}

-- ---- ranges are counted over a method

-- those before the line in its method
one_past : (s : Source) (place : ℕ) (body prefix : List Line) (line : Line) → IsMethodLine s place body prefix line → is_catch line ≡ true → 65535 ≤ count_by is_catch prefix → IsPastCatches s place
one_past s place body prefix line at such many = record { body = body; prefix = prefix; line = line; at = at; too_many = record { such = such; many = many } }

count_append : (xs ys : List Line) → count_by is_catch (xs ++ ys) ≡ count_by is_catch xs + count_by is_catch ys
count_append xs ys = sum_by-append (λ l. cond (is_catch l) 1 0) xs ys

count_one : (line : Line) (rest : List Line) → is_catch line ≡ true → count_by is_catch (line ∷ rest) ≡ 1 + count_by is_catch rest
count_one line rest such = sum_by-cons (λ l. cond (is_catch l) 1 0) line rest ∙ ap (λ b. cond b 1 0 + count_by is_catch rest) such

-- where no method has more than 65,535, none is too many
abbrev IsFew : MethodSource → Type 0
IsFew method = count_by is_catch (method_lines method) ≤ 65535

few_in_each : (s : Source) → AllByRecursion IsFew s.methods → (place : ℕ) → IsPastCatches s place → ⊥
few_in_each s few place past =
    let at = past.at in
    let in_method = at.in_method in
    let among : Contains s.methods in_method.method =
    subst (λ l. Contains l in_method.method) (sym in_method.methods)
    (Contains-append_right in_method.prefix (in_method.method ∷ in_method.rest) in_method.method (in_here in_method.method in_method.rest)) in
    let within : count_by is_catch (method_lines in_method.method) ≤ 65535 = each_in IsFew s.methods in_method.method few among in
    let parts : method_lines in_method.method ≡ past.prefix ++ past.line ∷ at.rest = sym in_method.lines_are ∙ at.parts in
    let all : count_by is_catch (past.prefix ++ past.line ∷ at.rest) ≤ 65535 = subst (λ l. count_by is_catch l ≤ 65535) parts within in
    let many = past.too_many.many in
    omega (arith, all, many, count_append past.prefix (past.line ∷ at.rest), count_one past.line at.rest past.too_many.such)

abbrev row : Aside
row = Catch None (codes "L") (codes "L") (codes "L")

abbrev rows : ℕ → List BodyPart
rows zero = []
rows (suc n) = Mark row ∷ rows n

abbrev with_rows : ℕ → MethodSource
with_rows n = Coded 9 (codes "m") (codes "()V") (pos 0) (pos 0) (rows n)

one_more : (k n : ℕ) → k ≡ n → 1 + k ≡ suc n
one_more k n e = omega (arith, e)

count_rows : (n : ℕ) → count_by is_catch (body_lines (rows n)) ≡ n
count_rows zero = refl
count_rows (suc n) = count_one (Beside row) (body_lines (rows n)) refl ∙ one_more (count_by is_catch (body_lines (rows n))) n (count_rows n)

few_rows : (n : ℕ) → n ≤ 65535 → IsFew (with_rows n)
few_rows n few = omega (arith, few, count_rows n, count_append (body_lines (rows n)) (End ∷ []))

-- two methods may have this many each, which together are more
abbrev two_methods : ℕ → ℕ → Source
two_methods n m = record { flags = 33; name = codes "A"; version = None; super = codes "A"; interfaces = []; fields = []; methods = with_rows n ∷ with_rows m ∷ [] }

none_past : (n m place : ℕ) → n ≤ 65535 → m ≤ 65535 → IsPastCatches (two_methods n m) place → ⊥
none_past n m place few other past = few_in_each (two_methods n m) (few_rows n few, (few_rows m other, tt)) place past

-- ---- frames

long_frame : (s : Source) (place : ℕ) → IsLongFrame s place → IsTooLarge s place
long_frame s place frame = inr (inr (inr (inr (inr (inr frame)))))

abbrev framed : List FrameType → Source
framed types = record {
  flags = 33;
  name = codes "A";
  version = None;
  super = codes "A";
  interfaces = [];
  fields = [];
  methods = Coded 9 (codes "m") (codes "()V") (pos 0) (pos 0) (FrameStep (Full types []) [] (Plain 177) ∷ []) ∷ [];
}

-- the frame stands after .class, .super, .method, .stack and .locals
too_many_types : (types : List FrameType) → length types ≡ 65536 → IsTooLarge (framed types) 5
too_many_types types size = long_frame (framed types) 5 (record { frame = Full types []; at = refl; long = inl (omega (arith, size)) })

abbrev frame_of : Option Line → Frame
frame_of (Some (Framed frame)) = frame
frame_of line = Same

most_types : (types : List FrameType) → length types ≡ 65535 → IsLongFrame (framed types) 5 → ⊥
most_types types size frame = by (subst HasLongLists (sym (ap frame_of frame.at)) frame.long) where
  by : HasLongLists (Full types []) → ⊥
  by (inl long) = omega (arith, size, long)
  by (inr long) = omega (arith, long)

-- ---- all fits

-- .class, .super
abbrev least : Source
least = record { flags = 33; name = codes "A"; version = None; super = codes "A"; interfaces = []; fields = []; methods = [] }

no_methods : (prefix : List MethodSource) (method : MethodSource) (rest : List MethodSource) → [] ≡ prefix ++ method ∷ rest → ⊥
no_methods [] method rest e = absurd cc
no_methods (first ∷ prefix) method rest e = absurd cc

no_method_lines : (before : ℕ) (body : List Line) → AreMethodLines least before body → ⊥
no_method_lines before body are = no_methods are.prefix are.method are.rest are.methods

index_text : index_in least (Utf8 (codes "A")) ≡ 1
unfolding methods_needs each_once index_of
index_text = refl

index_class : index_in least (Class (codes "A")) ≡ 2
unfolding methods_needs each_once index_of
index_class = refl

abbrev HasItsRoom : Need → Type 0
HasItsRoom need = HasRoom (index_in least need.entry) need.entry

text_room : HasRoom (index_in least (Utf8 (codes "A"))) (Utf8 (codes "A"))
text_room = record { short = omega arith; last = omega (arith, index_text) }

class_room : HasRoom (index_in least (Class (codes "A"))) (Class (codes "A"))
class_room = record { short = tt; last = omega (arith, index_class) }

all_room : AllByRecursion HasItsRoom (needs_of least)
unfolding methods_needs
all_room = (text_room, (class_room, (text_room, (class_room, tt))))

two_lines : length (lines_of least) ≡ 2
two_lines = refl

few_lines : (is_such : Line → Bool) (place : ℕ) → 65535 ≤ count_before is_such least place → ⊥
few_lines is_such place many = elim (cases_lt place 2) [
  | inl below ↦
      let size = length-take-le place (lines_of least) (omega (arith, below, two_lines)) in
      omega (arith, many, below, size, count_by-le-length is_such (take place (lines_of least)))
  | inr past ↦
      let same = take_all place (lines_of least) (omega (arith, past, two_lines)) in
      let all : 65535 ≤ count_by is_such (lines_of least) = subst (λ l. 65535 ≤ count_by is_such l) same many in
      omega (arith, all, two_lines, count_by-le-length is_such (lines_of least))
]

no_frame : (place : ℕ) (frame : Frame) → slice_get (lines_of least) place ≡ Some (Framed frame) → ⊥
no_frame zero frame e = absurd cc
no_frame (suc zero) frame e = absurd cc
no_frame (suc (suc n)) frame e = absurd cc

nothing_large : (place : ℕ) → IsTooLarge least place → ⊥
nothing_large place (inl past) = past.no_room (each_in HasItsRoom (needs_of least) past.need all_room past.needed)
nothing_large place (inr (inl improper)) = no_method_lines improper.at.before improper.body improper.at.in_method
nothing_large place (inr (inr (inl far))) = no_method_lines far.at.before far.body far.at.in_method
nothing_large place (inr (inr (inr (inl long)))) = no_method_lines long.at.before long.body long.at.in_method
nothing_large place (inr (inr (inr (inr (inl table))))) = elim table.too_many [
  | inl interface ↦ few_lines is_interface place interface.many
  | inr (inl field) ↦ few_lines is_field place field.many
  | inr (inr method) ↦ few_lines is_method place method.many
]
nothing_large place (inr (inr (inr (inr (inr (inl catches)))))) = no_method_lines catches.at.before catches.body catches.at.in_method
nothing_large place (inr (inr (inr (inr (inr (inr long)))))) = no_frame place long.frame long.at
