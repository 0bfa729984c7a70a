-- Where the path of a class file is cut after its folder.
use Rattle.std.proofs.Common.{◌≡◌, ℕ, ◌+◌, ◌<◌, Bool, true, false, ◌&&◌, List, [], ◌∷◌, ◌++◌, length, get_or, drop, IsTrue, refl, ap, ◌∙◌, append_assoc, length-append, arith}
use Rattle.std.specs.Str.{IsUtf8, IsCharBoundary}
use Rattle.std.specs.List.{starts_with}
use Rattle.std.specs.Prelude.{nat_eq}
use Rattle.std.proofs.lemmas.Bool.Decides.{Decides-eqb}
use Rattle.std.proofs.lemmas.Slice.Eq.{starts_is}
use Rattle.std.proofs.Math.Seq.{get_or-append_seam}
use Rattle.std.proofs.lemmas.Str.{IsCharBoundary-after_ascii}
use Rattle.dj_edge.specs.trusted.Held.{is_class_path}

first_of_both : (a b : Bool) → (a && b) ≡ true → a ≡ true
first_of_both true b h = refl
first_of_both false b h = absurd cc

-- the path is the folder, a slash and what is left where it is cut
pub behind_folder : (folder path : List ℕ) → IsTrue (is_class_path folder path) → path ≡ folder ++ 47 ∷ drop (length folder + 1) path
behind_folder folder path is =
    let start : List ℕ = folder ++ 47 ∷ [] in
    let starts : path ≡ start ++ drop (length start) path =
    (starts_is Decides-eqb path start (starts_with nat_eq path start) refl).0 (first_of_both _ _ is) in
    starts ∙ append_assoc folder (47 ∷ []) (drop (length start) path) ∙ ap (λ n. folder ++ 47 ∷ drop n path) (length-append folder (47 ∷ []))

-- the path is the folder, a slash and more
pub after_folder : (folder path : List ℕ) → IsTrue (is_class_path folder path) → (rest : List ℕ) × (path ≡ folder ++ 47 ∷ rest)
after_folder folder path is = (drop (length folder + 1) path, behind_folder folder path is)

pub slash_at : (folder path rest : List ℕ) → path ≡ folder ++ 47 ∷ rest → (length folder < length path) × (get_or path (length folder) 0 ≡ 47)
slash_at folder path rest is =
    let size : length path ≡ length folder + length (47 ∷ rest) = ap length is ∙ length-append folder (47 ∷ rest) in
    let at : get_or path (length folder) 0 ≡ 47 = ap (λ l. get_or l (length folder) 0) is ∙ get_or-append_seam folder 47 rest 0 in
    (omega arith, at)

pub cut_after_folder : (folder path : List ℕ) → IsUtf8 path → IsTrue (is_class_path folder path) → IsCharBoundary path (length folder + 1)
cut_after_folder folder path utf8 is =
    let parts = after_folder folder path is in
    let slash = slash_at folder path parts.0 parts.1 in
    let small : get_or path (length folder) 0 < 128 = omega (arith, slash.1) in
    IsCharBoundary-after_ascii path (length folder) utf8 slash.0 small
