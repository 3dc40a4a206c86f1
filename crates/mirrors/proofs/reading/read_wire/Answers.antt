-- By how a piece was read and taken.
use Rattle.std.proofs.Common.{◌≡◌, ◌+◌, ◌≤◌, ap, subst, sym, ◌∙◌, arith, drop, length, take}
use Rattle.std.proofs.lemmas.List.{length-take-le}
use Rattle.std.proofs.lemmas.Result.{err_from_is_err_and}
use Rattle.terra_io.specs.Stream.{Yields}
use Rattle.mirrors.specs.declared.reading.TheConstants.{WIRE_LIMIT}
use Rattle.mirrors.proofs.InputLemmas.{front-kept}
use Rattle.mirrors.proofs.ReadingLemmas.{HasRead, read-failed, read-limit, read-more, read-none, read-nothing, read-refused, read-taken, read-whole}
use Rattle.mirrors.proofs.reading.read_wire.Goals as goal

pub returns-in_err-piece : goal.returns-in_err-piece
returns-in_err-piece g c =
    let p = err_from_is_err_and c.from_residual.result c.from_residual.ensures.1 in
    rw (p.1, p.2) (read-nothing (g.S.Source.state c.args.source.now))

pub loop-count-init : goal.loop-count-init
loop-count-init g c =
    let state = g.S.Source.state c.args.source.now in
    record {
      so_far = subst (λ r. HasRead state state r 0) (sym c.new-replica.ensures) (read-none state);
      room = c.in_ok-piece.ensures.len;
    }

pub overflow_sub-count : goal.overflow_sub-count
overflow_sub-count g c = c.loop-count.invariant.so_far.within

pub read_piece-requires-clause-some : goal.read_piece-requires-clause-some
read_piece-requires-clause-some g c =
    omega (arith, c.min-room.ensures, c.loop-count-test.true)

pub read_piece-requires-clause-inside : goal.read_piece-requires-clause-inside
read_piece-requires-clause-inside g c =
    omega (arith, c.deref_mut.ensures.len, c.min-room.ensures, c.loop-count.invariant.room)

pub returns-in_err-more : goal.returns-in_err-more
returns-in_err-more g c =
    let residual = c.from_residual-in_err-more in
    let p = err_from_is_err_and residual.result residual.ensures.1 in
    let state = g.S.Source.state in
    rw (p.1, p.2) (read-failed (state c.args.source.now) (state c.loop-count.source)
    (state c.read_piece.new.source) c.loop-count.replica c.loop-count.count
    c.loop-count.invariant.so_far c.in_err-more.ensures.failed)

pub returns-then-more-eq0 : goal.returns-then-more-eq0
returns-then-more-eq0 g c =
    let state = g.S.Source.state in
    let got = c.in_ok-more.ensures in
    read-whole (state c.args.source.now) (state c.loop-count.source)
    (state c.read_piece.new.source) c.loop-count.replica c.loop-count.count
    (take c.in_ok-more.more c.read_piece.new.piece) c.loop-count.invariant.so_far got.taken
    got.faultless (ap (λ n. take n c.read_piece.new.piece) c.if-more-eq0.true)
    (got.end c.if-more-eq0.true) c.loop-count-test.true

pub slice_bounds-feed_piece-end : goal.slice_bounds-feed_piece-end
slice_bounds-feed_piece-end g c =
    let more = c.in_ok-more.more in
    let long : length (take more c.deref.result.now) ≡ more =
    length-take-le more c.deref.result.now (omega (
      arith,
      c.in_ok-more.ensures.within,
      c.min-room.ensures,
      c.deref.ensures.len,
      c.loop-count.invariant.room,
    )) in
    sym long

pub feed_piece-requires-clause-small : goal.feed_piece-requires-clause-small
feed_piece-requires-clause-small g c =
    let more = c.in_ok-more.more in
    let long : length (take more c.deref.result.now) ≡ more =
    length-take-le more c.deref.result.now (omega (
      arith,
      c.in_ok-more.ensures.within,
      c.min-room.ensures,
      c.deref.ensures.len,
      c.loop-count.invariant.room,
    )) in
    omega (arith, long, c.in_ok-more.ensures.within, c.min-room.ensures)

pub feed_piece-requires-clause-room : goal.feed_piece-requires-clause-room
feed_piece-requires-clause-room g c =
    let more = c.in_ok-more.more in
    let long : length (take more c.deref.result.now) ≡ more =
    length-take-le more c.deref.result.now (omega (
      arith,
      c.in_ok-more.ensures.within,
      c.min-room.ensures,
      c.deref.ensures.len,
      c.loop-count.invariant.room,
    )) in
    let taken = read-taken (g.S.Source.state c.args.source.now)
    (g.S.Source.state c.loop-count.source) c.loop-count.replica c.loop-count.count
    c.loop-count.invariant.so_far in
    omega (
      arith,
      long,
      taken,
      c.in_ok-more.ensures.within,
      c.min-room.ensures,
      c.loop-count-test.true,
    )

pub returns-in_err-feed_piece : goal.returns-in_err-feed_piece
returns-in_err-feed_piece g c =
    let residual = c.from_residual-in_err-feed_piece in
    let p = err_from_is_err_and residual.result residual.ensures.1 in
    let more = c.in_ok-more.more in
    let long : length (take more c.deref.result.now) ≡ more =
    length-take-le more c.deref.result.now (omega (
      arith,
      c.in_ok-more.ensures.within,
      c.min-room.ensures,
      c.deref.ensures.len,
      c.loop-count.invariant.room,
    )) in
    let state = g.S.Source.state in
    let mid = state c.loop-count.source in
    let new = state c.read_piece.new.source in
    let got = c.in_ok-more.ensures in
    let same : c.deref.result.now ≡ c.read_piece.new.piece =
    c.deref.ensures.value ∙ front-kept c.loop-count.piece.len c.read_piece.new.piece
    (drop (length c.read_piece.new.piece) c.loop-count.piece.items)
    (c.read_piece.auto.piece ∙ c.deref_mut.ensures.len) in
    let yields = subst (λ bytes. Yields mid new (take more bytes)) (sym same) got.taken in
    let few : c.loop-count.count + more ≤ WIRE_LIMIT =
    omega (arith, got.within, c.min-room.ensures, c.loop-count-test.true) in
    rw (p.1, p.2) (read-refused (state c.args.source.now) mid new c.loop-count.replica
    c.feed_piece.new.replica c.loop-count.count more (take more c.deref.result.now)
    c.in_err-feed_piece.field-0.0 c.loop-count.invariant.so_far yields got.faultless long few
    c.in_err-feed_piece.ensures)

pub overflow_add-count : goal.overflow_add-count
overflow_add-count g c =
    omega (arith, c.loop-count-test.true, c.in_ok-more.ensures.within, c.min-room.ensures)

pub loop-count-smaller : goal.loop-count-smaller
loop-count-smaller g c = omega (arith, c.loop-count-test.true, c.if-more-eq0.false)

pub loop-count-preserved : goal.loop-count-preserved
loop-count-preserved g c =
    let more = c.in_ok-more.more in
    let long : length (take more c.deref.result.now) ≡ more =
    length-take-le more c.deref.result.now (omega (
      arith,
      c.in_ok-more.ensures.within,
      c.min-room.ensures,
      c.deref.ensures.len,
      c.loop-count.invariant.room,
    )) in
    let state = g.S.Source.state in
    let mid = state c.loop-count.source in
    let new = state c.read_piece.new.source in
    let got = c.in_ok-more.ensures in
    let same : c.deref.result.now ≡ c.read_piece.new.piece =
    c.deref.ensures.value ∙ front-kept c.loop-count.piece.len c.read_piece.new.piece
    (drop (length c.read_piece.new.piece) c.loop-count.piece.items)
    (c.read_piece.auto.piece ∙ c.deref_mut.ensures.len) in
    let yields = subst (λ bytes. Yields mid new (take more bytes)) (sym same) got.taken in
    let few : c.loop-count.count + more ≤ WIRE_LIMIT =
    omega (arith, got.within, c.min-room.ensures, c.loop-count-test.true) in
    record {
      so_far = read-more (state c.args.source.now) mid new c.loop-count.replica
          c.feed_piece.new.replica c.loop-count.count more (take more c.deref.result.now)
          c.loop-count.invariant.so_far yields got.faultless long few
          c.in_ok-feed_piece.ensures;
      room = c.loop-count.invariant.room;
    }

pub returns : goal.returns
returns g c =
    let state = g.S.Source.state in
    read-limit (state c.args.source.now) (state c.loop-count.source) c.loop-count.replica
    c.loop-count.count c.loop-count.invariant.so_far c.loop-count-test.false
