use Rattle.std.proofs.Common.{◌≡◌, ℕ, ◌<◌, List, length, max, min, sym, subst, ◌∙◌, arith}
use Rattle.std.proofs.lemmas.List.{length-set}
use Rattle.squall_span.specs.Spans.{Interval}
use Rattle.squall_span.specs.Places.{Apart, Started}
use Rattle.squall_span.proofs.Compared.{max_is, min_is}
use Rattle.squall_span.proofs.Inserting.{found, insert_beyond, insert_between, insert_found, become_one}
use Rattle.squall_span.proofs.edit.insert_ready.Goals as goal

-- what was found of the vector's spans and a bound that was read
apart_from : (s : Interval) (xs ys : List Interval) (lo : ℕ) → ys ≡ xs → lo ≡ s.lo → Apart ys lo (length ys) → Apart xs s.lo (length xs)
apart_from s xs ys lo e f a = subst (λ (zs : List Interval). Apart zs s.lo (length zs)) e (subst (λ n. Apart ys n (length ys)) f a)

pub returns-then-all_apart-clause-value : goal.returns-then-all_apart-clause-value
returns-then-all_apart-clause-value c =
    let s : Interval = c.args.span in
    let xs : List Interval = c.args.spans.now.items in
    let all : Apart c.deref.result.now c.lo.result (length c.deref.result.now) = c.all_apart.ensures.0 c.if-all_apart.true in
    c.push_reserved.ensures.items ∙ sym (insert_beyond s xs c.requires.canonical (omega arith) (apart_from s xs c.deref.result.now c.lo.result c.deref.ensures.value c.lo.ensures.value all))

pub returns-then-from-to-clause-value : goal.returns-then-from-to-clause-value
returns-then-from-to-clause-value c =
    let s : Interval = c.args.span in
    let xs : List Interval = c.args.spans.now.items in
    let f = found s xs _ _ _ _ _ _ c.deref-2.ensures.value c.deref-3.ensures.value c.lo-2.ensures.value c.hi.ensures.value (omega arith) c.requires.canonical c.apart-from.ensures c.started-to.ensures in
    c.put.ensures.value ∙ insert_between s xs c.apart-from.result c.requires.canonical (omega arith) f.apart (subst (Started xs s.hi) (sym c.if-from-to.true) f.started)

pub index-requires : goal.index-requires
index-requires c =
    let f = found c.args.span c.args.spans.now.items _ _ _ _ _ _ c.deref-2.ensures.value c.deref-3.ensures.value c.lo-2.ensures.value c.hi.ensures.value (omega arith) c.requires.canonical c.apart-from.ensures c.started-to.ensures in
    omega (arith, f.order, f.within)

pub overflow_sub-to : goal.overflow_sub-to
overflow_sub-to c =
    let f = found c.args.span c.args.spans.now.items _ _ _ _ _ _ c.deref-2.ensures.value c.deref-3.ensures.value c.lo-2.ensures.value c.hi.ensures.value (omega arith) c.requires.canonical c.apart-from.ensures c.started-to.ensures in
    omega (arith, f.order)

pub index_mut-requires : goal.index_mut-requires
index_mut-requires c =
    let f = found c.args.span c.args.spans.now.items _ _ _ _ _ _ c.deref-2.ensures.value c.deref-3.ensures.value c.lo-2.ensures.value c.hi.ensures.value (omega arith) c.requires.canonical c.apart-from.ensures c.started-to.ensures in
    omega (arith, f.order, f.within)

pub cut_out-requires-clause-order : goal.cut_out-requires-clause-order
cut_out-requires-clause-order c =
    let f = found c.args.span c.args.spans.now.items _ _ _ _ _ _ c.deref-2.ensures.value c.deref-3.ensures.value c.lo-2.ensures.value c.hi.ensures.value (omega arith) c.requires.canonical c.apart-from.ensures c.started-to.ensures in
    omega (arith, f.order)

pub cut_out-requires-clause-within : goal.cut_out-requires-clause-within
cut_out-requires-clause-within c =
    let f = found c.args.span c.args.spans.now.items _ _ _ _ _ _ c.deref-2.ensures.value c.deref-3.ensures.value c.lo-2.ensures.value c.hi.ensures.value (omega arith) c.requires.canonical c.apart-from.ensures c.started-to.ensures in
    omega (arith, f.within, length-set {A = Interval})

pub returns-clause-value : goal.returns-clause-value
returns-clause-value c =
    let s : Interval = c.args.span in
    let xs : List Interval = c.args.spans.now.items in
    let x : Interval = c.index.result.now in
    let y : Interval = c.index-2.result.now in
    let i = c.apart-from.result in
    let j = c.started-to.result in
    let f = found s xs _ _ _ _ _ _ c.deref-2.ensures.value c.deref-3.ensures.value c.lo-2.ensures.value c.hi.ensures.value (omega arith) c.requires.canonical c.apart-from.ensures c.started-to.ensures in
    let order : i < j = omega (arith, f.order) in
    let low : c.min-lo.result ≡ min s.lo x.lo = c.min-lo.ensures ∙ min_is _ _ ∙ (λ k. min (c.lo-3.ensures.value k) (c.lo-4.ensures.value k)) in
    let high : c.max-hi.result ≡ max s.hi y.hi = c.max-hi.ensures ∙ max_is _ _ ∙ (λ k. max (c.hi-2.ensures.value k) (c.hi-3.ensures.value k)) in
    c.cut_out.ensures.value
    ∙ become_one xs i j c.between.result order f.within
    ∙ insert_found s xs i j c.min-lo.result c.max-hi.result c.between.result x y (omega arith) c.requires.canonical f order c.index.ensures c.index-2.ensures c.between.ensures low high
