use Rattle.std.proofs.Common.{◌≡◌, ◌+◌, ℕ, List, ◌++◌, take, Some, rules, subst, sym}
use Rattle.packing.specs.Packed.{words_for, length_words}
use Rattle.packing.specs.Unpacked.{file_length, unpacked}
use Rattle.packing.proofs.Enough.{enough}
use Rattle.packing.proofs.reading.file_words.Goals as goal

-- the number that is answered is made of the length
pub returns-clause-enough : goal.returns-clause-enough
returns-clause-enough c = λ (more : List ℕ).
    let p = c.args.packing in
    let ws = c.args.words.now in
    let n = c.in_ok-count.count in
    let told : file_length p ws ≡ Some n = search rules in
    let asked : c.length_words.result + c.words_for.result ≡ length_words p + words_for p n = search rules in
    subst (λ (k : ℕ). unpacked p (take k (ws ++ more)) ≡ unpacked p (ws ++ more)) (sym asked) (enough p ws n told more)
