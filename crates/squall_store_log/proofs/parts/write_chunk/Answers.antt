use Rattle.std.proofs.Common.{◌≡◌, List, ℕ, ◌++◌, append_assoc, ap, ◌∙◌}
use Rattle.squall_protocol.specs.Chunks.{ChunkValue}
use Rattle.squall_store_log.specs.Records.{word, rank, spell_chunk}
use Rattle.squall_store_log.proofs.parts.write_chunk.Goals as goal

regrouped : (o a b d e f g : List ℕ) → (((((o ++ a) ++ b) ++ d) ++ e) ++ f) ++ g ≡ o ++ (a ++ (b ++ (d ++ (e ++ (f ++ g)))))
regrouped o a b d e f g = simp append_assoc

-- six numbers that were added
six : (x : ChunkValue) (n s p d l h : ℕ) (o o1 o2 o3 o4 o5 o6 : List ℕ) → n ≡ x.number → s ≡ x.sub → p ≡ x.source → d ≡ x.dest → l ≡ x.span.lo → h ≡ x.span.hi
    → o1 ≡ o ++ word n → o2 ≡ o1 ++ word s → o3 ≡ o2 ++ word p → o4 ≡ o3 ++ word d → o5 ≡ o4 ++ rank l → o6 ≡ o5 ++ rank h → o6 ≡ o ++ spell_chunk x
six x n s p d l h o o1 o2 o3 o4 o5 o6 en es ep ed el eh h1 h2 h3 h4 h5 h6 =
    h6 ∙ ap (λ (z : List ℕ). z ++ rank h) (h5 ∙ ap (λ (z : List ℕ). z ++ rank l) (h4 ∙ ap (λ (z : List ℕ). z ++ word d) (h3 ∙ ap (λ (z : List ℕ). z ++ word p)
    (h2 ∙ ap (λ (z : List ℕ). z ++ word s) h1))))
    ∙ regrouped o (word n) (word s) (word p) (word d) (rank l) (rank h)
    ∙ ap (λ (z : ℕ). o ++ (word z ++ (word s ++ (word p ++ (word d ++ (rank l ++ rank h)))))) en
    ∙ ap (λ (z : ℕ). o ++ (word x.number ++ (word z ++ (word p ++ (word d ++ (rank l ++ rank h)))))) es
    ∙ ap (λ (z : ℕ). o ++ (word x.number ++ (word x.sub ++ (word z ++ (word d ++ (rank l ++ rank h)))))) ep
    ∙ ap (λ (z : ℕ). o ++ (word x.number ++ (word x.sub ++ (word x.source ++ (word z ++ (rank l ++ rank h)))))) ed
    ∙ ap (λ (z : ℕ). o ++ (word x.number ++ (word x.sub ++ (word x.source ++ (word x.dest ++ (rank z ++ rank h)))))) el
    ∙ ap (λ (z : ℕ). o ++ (word x.number ++ (word x.sub ++ (word x.source ++ (word x.dest ++ (rank x.span.lo ++ rank z)))))) eh

pub returns-clause-written : goal.returns-clause-written
returns-clause-written c = six c.args.chunk.now c.number.result c.sub.result c.get.result c.get-2.result c.rank.result c.rank-2.result c.args.out.now.items
    c.write_word.new.out.items c.write_word-2.new.out.items c.write_word-3.new.out.items c.write_word-4.new.out.items c.write_rank.new.out.items c.write_rank-2.new.out.items
    (cc c.number.ensures.value) (cc c.sub.ensures.value) (cc (c.get.ensures.value, c.source.ensures)) (cc (c.get-2.ensures.value, c.dest.ensures)) (cc (c.rank.ensures.value, c.lo.ensures.value, c.span.ensures)) (cc (c.rank-2.ensures.value, c.hi.ensures.value, c.span-2.ensures))
    c.in_ok-write_word.ensures c.in_ok-write_word-2.ensures c.in_ok-write_word-3.ensures c.in_ok-write_word-4.ensures c.in_ok-write_rank.ensures c.in_ok-write_rank-2.ensures
