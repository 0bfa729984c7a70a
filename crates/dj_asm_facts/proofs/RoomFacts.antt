-- The first line that needs an entry without room, where the pool has the need of a later line before it.
use Rattle.std.proofs.Common.{◌≡◌, ℕ, ◌<◌, pos, List, [], ◌∷◌, length, Some, None, codes, refl, arith}
use Rattle.std.specs.List.{AllByRecursion}
use Rattle.dj_asm_source.specs.trusted.Lines.{Catch, ClassOf}
use Rattle.dj_asm_source.specs.trusted.Sources.{Source, Mark, Step, Coded}
use Rattle.dj_asm_pool.specs.trusted.Entries.{Utf8, Class, each_once, index_of}
use Rattle.dj_asm_pool.specs.trusted.Needs.{Need, needs_of, methods_needs, index_in}
use Rattle.dj_asm_pool.specs.trusted.Room.{HasRoom, IsPastPool}
use Rattle.dj_asm_pool.specs.Room.{IsFirst}
use Rattle.dj_asm_pool.proofs.Members.{each_in}

-- .class, .super, .method, .stack, .locals, `.catch` of a class, `new` of it, .end
abbrev source : List ℕ → Source
source long = record {
  flags = 33;
  name = codes "A";
  version = None;
  super = codes "A";
  interfaces = [];
  fields = [];
  methods = Coded 9 (codes "m") (codes "()V") (pos 1) (pos 0) (Mark (Catch (Some long) (codes "L") (codes "L") (codes "L")) ∷ Step (ClassOf 187 long) ∷ []) ∷ [];
}

-- the needs of the instruction stand before those of the range
count : (long : List ℕ) → length (needs_of (source long)) ≡ 11
unfolding methods_needs
count long = refl

-- both lines need the text, which is too long
range_past : (long : List ℕ) → length long ≡ 65536 → IsPastPool (source long) 5
unfolding methods_needs
range_past long size = record {
  need = record { place = 5; entry = Utf8 long };
  needed = (9, omega (arith, count long), refl);
  place_is = refl;
  no_room = λ room. let short = room.short in omega (arith, size, short);
}

instruction_past : (long : List ℕ) → length long ≡ 65536 → IsPastPool (source long) 6
unfolding methods_needs
instruction_past long size = record {
  need = record { place = 6; entry = Utf8 long };
  needed = (7, omega (arith, count long), refl);
  place_is = refl;
  no_room = λ room. let short = room.short in omega (arith, size, short);
}

-- the entries of the lines before them have room
index_text : (long : List ℕ) → index_in (source long) (Utf8 (codes "A")) ≡ 1
unfolding methods_needs each_once index_of
index_text long = refl

index_class : (long : List ℕ) → index_in (source long) (Class (codes "A")) ≡ 2
unfolding methods_needs each_once index_of
index_class long = refl

index_name : (long : List ℕ) → index_in (source long) (Utf8 (codes "m")) ≡ 3
unfolding methods_needs each_once index_of
index_name long = refl

index_desc : (long : List ℕ) → index_in (source long) (Utf8 (codes "()V")) ≡ 4
unfolding methods_needs each_once index_of
index_desc long = refl

index_code : (long : List ℕ) → index_in (source long) (Utf8 (codes "Code")) ≡ 5
unfolding methods_needs each_once index_of
index_code long = refl

abbrev HasRoomBefore : List ℕ → Need → Type 0
HasRoomBefore long need = need.place < 5 → HasRoom (index_in (source long) need.entry) need.entry

five : ◌<◌ 5 5 → ⊥
five below = omega (arith, below)

six : ◌<◌ 6 5 → ⊥
six below = omega (arith, below)

text_room : (long : List ℕ) → HasRoom (index_in (source long) (Utf8 (codes "A"))) (Utf8 (codes "A"))
text_room long = record { short = omega arith; last = omega (arith, index_text long) }

class_room : (long : List ℕ) → HasRoom (index_in (source long) (Class (codes "A"))) (Class (codes "A"))
class_room long = record { short = tt; last = omega (arith, index_class long) }

name_room : (long : List ℕ) → HasRoom (index_in (source long) (Utf8 (codes "m"))) (Utf8 (codes "m"))
name_room long = record { short = omega arith; last = omega (arith, index_name long) }

desc_room : (long : List ℕ) → HasRoom (index_in (source long) (Utf8 (codes "()V"))) (Utf8 (codes "()V"))
desc_room long = record { short = omega arith; last = omega (arith, index_desc long) }

code_room : (long : List ℕ) → HasRoom (index_in (source long) (Utf8 (codes "Code"))) (Utf8 (codes "Code"))
code_room long = record { short = omega arith; last = omega (arith, index_code long) }

room_before : (long : List ℕ) → AllByRecursion (HasRoomBefore long) (needs_of (source long))
unfolding methods_needs
room_before long = (
  λ below. text_room long,
  (
    λ below. class_room long,
    (
      λ below. text_room long,
      (
        λ below. class_room long,
        (
          λ below. name_room long,
          (
            λ below. desc_room long,
            (
              λ below. code_room long,
              (λ below. absurd (six below), (λ below. absurd (six below), (λ below. absurd (five below), (λ below. absurd (five below), tt)))),
            ),
          ),
        ),
      ),
    ),
  ),
)

none_before : (long : List ℕ) (earlier : ℕ) → earlier < 5 → IsPastPool (source long) earlier → ⊥
none_before long earlier below past =
    let is = past.place_is in
    past.no_room (each_in (HasRoomBefore long) (needs_of (source long)) past.need (room_before long) past.needed (omega (arith, below, is)))

-- the first line is that of the range, though the instruction's need stands before its own
first_is_range : (long : List ℕ) → length long ≡ 65536 → IsFirst (IsPastPool (source long)) (Some 5)
first_is_range long size = (range_past long size, λ earlier below past. none_before long earlier below past)

first_is_not_instruction : (long : List ℕ) → length long ≡ 65536 → IsFirst (IsPastPool (source long)) (Some 6) → ⊥
first_is_not_instruction long size first = first.1 5 (omega arith) (range_past long size)

some_line : (long : List ℕ) → length long ≡ 65536 → IsFirst (IsPastPool (source long)) None → ⊥
some_line long size none = none 5 (range_past long size)
