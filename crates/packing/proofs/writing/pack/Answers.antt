use Rattle.std.proofs.Common.{◌≡◌, ◌^◌, ◌<◌, ℕ, List, length, vec_items, arith, subst, sym, rules}
use Rattle.packing.specs.Packed.{packed}
use Rattle.packing.specs.Laws.{WordsOf}
use Rattle.packing.proofs.Back.{words_of}
use Rattle.packing.proofs.writing.pack.Goals as goal

pub returns-clause-read_back : goal.returns-clause-read_back
returns-clause-read_back c =
    let p = c.args.packing in
    let bytes = c.args.bytes.now in
    let same : vec_items c.add_bytes-2.new.words ≡ packed p bytes = search rules in
    let short : length bytes < 2 ^ 32 = search rules in
    subst (λ (ws : List ℕ). WordsOf p bytes ws) (sym same) (words_of p bytes (λ k. let fits = c.type_inv.bytes k in omega arith) short)
