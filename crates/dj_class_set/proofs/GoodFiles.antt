-- The class files of a set are unique.
use Rattle.std.proofs.Common.{◌≡◌, List, [], ◌∷◌, refl}
use Rattle.dj_edge.specs.trusted.Held.{File}
use Rattle.dj_pool.proofs.Decides.{tests_decide}
use Rattle.dj_class.specs.trusted.ClassFile.{ClassFile}
use Rattle.dj_class.proofs.ClassLaws.{one_class_file}
use Rattle.dj_class_set.specs.trusted.Checked.{AreGoodFiles}

pub same_good : (files : List File) (xs ys : List ClassFile) → AreGoodFiles files xs → AreGoodFiles files ys → xs ≡ ys
same_good [] [] [] a b = refl
same_good [] [] (y ∷ ys) a b = absurd b
same_good [] (x ∷ xs) ys a b = absurd a
same_good (file ∷ files) [] ys a b = absurd a
same_good (file ∷ files) (x ∷ xs) [] a b = absurd b
same_good (file ∷ files) (x ∷ xs) (y ∷ ys) a b =
    let first : x ≡ y = one_class_file tests_decide file.1 x y a.0.file b.0.file in
    let rest : xs ≡ ys = same_good files xs ys a.1 b.1 in
    λ i. first i ∷ rest i
