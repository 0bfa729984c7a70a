-- The items of a line say its end nowhere but at its end.
use Rattle.std.proofs.Common.{◌≡◌, ℤ, Bool, true, false, List, [], ◌∷◌, ◌++◌, map, Some, None, codes, refl, ap, subst, inl, inr}
use Rattle.std.specs.List.{list_all, flat_map}
use Rattle.std.proofs.lemmas.Bool.{and_parts, and_from}
use Rattle.dj_asm_tokens.specs.trusted.Words.{LineEnd, Placed}
use Rattle.dj_asm_source.specs.trusted.Items.{Item, Exactly, Flags, Number, Called, Text, Ended, Says}
use Rattle.dj_asm_source.specs.trusted.Lines.{Label, IntValue, LongValue, StringValue, IntLiteral, StringLiteral, ClassLiteral, FrameType, Simple, Object, New, Same, Stack1, Chop, Append, Full, Plain, Push, Local, Increment, Load, LoadLong, Jump, Table, Lookup, Member, Dynamic, ClassOf, Array, Multi, Labelled, Catch, Line, Class, Version, Super, Implements, Field, Abstract, Method, Stack, Locals, Beside, Framed, Does, End, type_item, pair_items, default_items, items_of}
use Rattle.dj_asm_source.proofs.Readers.{Said}

abbrev is_open : Item → Bool
is_open Ended = false
is_open item = true

abbrev are_open : List Item → Bool
are_open items = list_all is_open items

open_append : (xs ys : List Item) → are_open xs ≡ true → are_open ys ≡ true → are_open (xs ++ ys) ≡ true
open_append [] ys p q = q
open_append (x ∷ xs) ys p q = let a = and_parts (is_open x) (are_open xs) p in and_from (is_open x) (are_open (xs ++ ys)) a.0 (open_append xs ys a.1 q)

open_type : (type : FrameType) → is_open (type_item type) ≡ true
open_type (Simple word) = refl
open_type (Object name) = refl
open_type (New label) = refl

open_types : (types : List FrameType) → are_open (map type_item types) ≡ true
open_types [] = refl
open_types (type ∷ types) = and_from (is_open (type_item type)) (are_open (map type_item types)) (open_type type) (open_types types)

open_labels : (labels : List Label) → are_open (map Exactly labels) ≡ true
open_labels [] = refl
open_labels (label ∷ labels) = open_labels labels

open_pairs : (pairs : List (ℤ × Label)) → are_open (flat_map pair_items pairs) ≡ true
open_pairs [] = refl
open_pairs ((n, label) ∷ pairs) = open_pairs pairs

open_line : (l : Line) → are_open (items_of l) ≡ true
open_line (Class flags name) = refl
open_line (Version major minor) = refl
open_line (Super name) = refl
open_line (Implements name) = refl
open_line (Field flags name desc None) = refl
open_line (Field flags name desc (Some (IntValue n))) = refl
open_line (Field flags name desc (Some (LongValue n))) = refl
open_line (Field flags name desc (Some (StringValue units))) = refl
open_line (Abstract flags name desc) = refl
open_line (Method flags name desc) = refl
open_line (Stack n) = refl
open_line (Locals n) = refl
open_line (Beside (Labelled label)) = refl
open_line (Beside (Catch None from to handler)) = refl
open_line (Beside (Catch (Some class) from to handler)) = refl
open_line (Framed Same) = refl
open_line (Framed (Stack1 type)) = and_from (is_open (type_item type)) true (open_type type) refl
open_line (Framed (Chop n)) = refl
open_line (Framed (Append types)) = open_types types
open_line (Framed (Full locals stack)) = open_append (map type_item locals) (Exactly (codes "/") ∷ map type_item stack) (open_types locals) (open_types stack)
open_line (Does (Plain op)) = refl
open_line (Does (Push op n)) = refl
open_line (Does (Local false op n)) = refl
open_line (Does (Local true op n)) = refl
open_line (Does (Increment false n by)) = refl
open_line (Does (Increment true n by)) = refl
open_line (Does (Load op (IntLiteral n))) = refl
open_line (Does (Load op (StringLiteral units))) = refl
open_line (Does (Load op (ClassLiteral name))) = refl
open_line (Does (LoadLong n)) = refl
open_line (Does (Jump op label)) = refl
open_line (Does (Table low labels last)) = open_append (map Exactly labels) (default_items last) (open_labels labels) refl
open_line (Does (Lookup pairs last)) = open_append (flat_map pair_items pairs) (default_items last) (open_pairs pairs) refl
open_line (Does (Member op class name desc false)) = refl
open_line (Does (Member op class name desc true)) = refl
open_line (Does (Dynamic n name desc)) = refl
open_line (Does (ClassOf op class)) = refl
open_line (Does (Array base)) = refl
open_line (Does (Multi desc dims)) = refl
open_line End = refl

-- only Ended is said by the end of a line
ends_none : (item : Item) → is_open item ≡ true → Says item LineEnd → ⊥
ends_none (Exactly units) o e = absurd cc
ends_none (Flags n) o s = absurd cc (s.word)
ends_none (Number n) o (inl s) = absurd cc (s.word)
ends_none (Number n) o (inr s) = absurd cc (s.word)
ends_none (Called prefix text) o s = absurd cc (s.word)
ends_none (Text units) o e = absurd cc
ends_none Ended o e = absurd cc

after_end : (items : List Item) (us : List Placed) (e : Placed) (more : List Placed) → are_open items ≡ true → Said (items ++ Ended ∷ []) (us ++ e ∷ more) → e.token ≡ LineEnd → more ≡ []
after_end [] [] e [] o said ended = refl
after_end [] [] e (m ∷ more) o said ended = absurd said.1
after_end [] (u ∷ []) e more o said ended = absurd said.1
after_end [] (u ∷ v ∷ us) e more o said ended = absurd said.1
after_end (x ∷ items) [] e more o said ended = absurd (ends_none x (and_parts (is_open x) (are_open items) o).0 (subst (Says x) ended said.0))
after_end (x ∷ items) (u ∷ us) e more o said ended = after_end items us e more (and_parts (is_open x) (are_open items) o).1 said.1 ended

-- what says a line up to an end says no more
pub line_is_over : (l : Line) (us : List Placed) (e : Placed) (more : List Placed) → Said (items_of l ++ Ended ∷ []) (us ++ e ∷ more) → e.token ≡ LineEnd → more ≡ []
line_is_over l us e more said ended = after_end (items_of l) us e more (open_line l) said ended

pub no_line_said : (items : List Item) (more : List Item) → Said ((items ++ Ended ∷ []) ++ more) [] → ⊥
no_line_said [] more said = said
no_line_said (x ∷ items) more said = said

-- the last of what says a line is its end
pub last_said : (items : List Item) (us : List Placed) → Said (items ++ Ended ∷ []) us → (first : List Placed) × (e : Placed) × (us ≡ first ++ e ∷ []) × (e.token ≡ LineEnd)
last_said [] [] said = absurd said
last_said [] (u ∷ []) said = ([], u, refl, said.0)
last_said [] (u ∷ v ∷ us) said = absurd said.1
last_said (x ∷ items) [] said = absurd said
last_said (x ∷ items) (u ∷ us) said = let l = last_said items us said.1 in (u ∷ l.0, l.1, ap (λ ts. u ∷ ts) l.2, l.3)
