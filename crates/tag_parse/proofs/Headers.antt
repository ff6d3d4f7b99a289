-- Headers. `read_header` answers a header exactly where its octets stand in front: an ID, and right after it a size VINT;
-- it asks for more exactly where a part of such octets is all there is, and refuses exactly what `BadSize` says. An
-- answer that asks for no more stays when bytes are appended. Assumes nothing.
use Prim.Native.Nat.{ℕ, ◌+◌, ◌-◌, ◌*◌, ◌≤◌, ◌<◌}
use mathlib.Core.Path.{◌≡◌, refl, sym, ap, ◌∙◌, subst}
use mathlib.Core.Bool.{Bool, true, false, true≢false, cond}
use mathlib.Core.List.{List, ◌++◌, append_assoc}
use mathlib.Core.Logic.{◌⊎◌, inl, inr, ◌↔◌}
use native.Mathlib.Omega.{arith}
use native.Mathlib.Decide.{dec_le}
use native.Mathlib.Nat.{lt_of_lt_of_le}
use lib.Pow.{pow_mono}
use lib.ListN.{length, get_or, take, drop, length-append, length-drop, length-take, take-append-drop}
use lib.Seq.{take_at, drop_at, take-append-le, take-append-add, drop-append-le}
use Rattle.basics.specs.Lists.{ProperPrefix}
use Rattle.tools.specs.Bytes.{Octets}
use Rattle.tools.specs.Vint.{IsVint, Front, VintPart, FirstByte0, vint_limit, all_ones, read_vint, vint_needs_more, vint_bytes}
use Rattle.tools.specs.declared.errors.ToolError.TheVariants.{ReadVintOverflow}
use Rattle.tools.proofs.Rfc8794.{read_sound, front_read, read_local, vint_needs_more_lem, vint_refused, written_is}
use Rattle.table.specs.Table.{Entry, spec_for, data_type_of}
use Rattle.table.specs.declared.types.Spec.{Spec}
use Rattle.tag_parse.specs.Header.{read_tag_id, id_needs_more, size_of, too_long, header_of, sized_by, sized, after_id, read_header, header_needs_more, IsId, IsHeader, OfTable, IdPart, HeaderPart, TooLongSize, BadSize}
use Rattle.tag_parse.specs.declared.types.ParseError.{ParseError}
use Rattle.tag_parse.specs.declared.types.ParseError.TheVariants.{InvalidTagData}
use Rattle.tag_parse.specs.declared.types.EBMLSize.TheVariants as size
use Rattle.tag_parse.specs.declared.types.TagHeader.{TagHeader}
use Rattle.tag_parse.proofs.Cases.{id_front, octets_drop}
use Rattle.tag_parse.proofs.Ids.{id_sound, id_complete, id_needs_more_lem, id_local, first_of_id}
use Rattle.std.specs.Prelude.{Err, Ok, Result}
use Rattle.tools.specs.declared.status.Status.{Status}
use Rattle.tools.specs.declared.errors.ToolError.{ToolError}
use Rattle.tools.specs.declared.status.Status.TheVariants as status

-- the header that a size of v in L octets makes, where it is not too long for its type
pub made : (x n v L : ℕ) (spec : Spec) (h : TagHeader) → sized_by x spec n v L ≡ Ok (status.Complete h) → (header_of x spec n v L ≡ h) × (too_long spec.kind v ≡ false)
unfolding sized_by
made x n v L spec h e = go (too_long spec.kind v) refl
  where
    go : (b : Bool) → too_long spec.kind v ≡ b → (header_of x spec n v L ≡ h) × (too_long spec.kind v ≡ false)
    go true f =
        let e' = rw f at e in
        let z : ◌≡◌ {A = ℕ} 0 1 = cc in
        absurd (omega arith)
    go false f = let e' = rw f at e in let g : header_of x spec n v L ≡ h = cc in (g, f)

-- a header that is read stands at the front
pub header_sound : (t : List Entry) (s : List ℕ) (h : TagHeader) → Octets s → read_header t s ≡ Ok (status.Complete h) → IsHeader h s
unfolding read_header after_id sized
header_sound t s h byte e = at-id (read_tag_id s) refl e
  where
    at_size : (x n : ℕ) → read_tag_id s ≡ status.Complete (x, n) → (r : Result (Status (ℕ × ℕ)) ToolError) → read_vint (drop n s) ≡ r → sized x (spec_for t x) n r ≡ Ok (status.Complete h) → IsHeader h s
    at_size x n f (Ok (status.NeedMore missing)) g e = let z : ◌≡◌ {A = ℕ} 0 1 = cc in absurd (omega arith)
    at_size x n f (Err o) g e = let z : ◌≡◌ {A = ℕ} 0 1 = cc in absurd (omega arith)
    at_size x n f (Ok (status.Complete (v, L))) g e =
        let m = made x n v L (spec_for t x) h e in
        let front : Front L v (drop n s) = read_sound (drop n s) L v (octets_drop n s byte) g in
        let there = id_front s (byte 0) f in
        rw (← m.0) (record {
          n = n;
          L = L;
          v = v;
          identifier = id_sound s x n byte f;
          at_most_8 = there.most;
          vint = front;
          whole = omega (arith, front.whole, length-drop n s, there.whole);
          taken = refl;
          size = refl;
          fits = m.1;
        })

    at-id : (r : Status (ℕ × ℕ)) → read_tag_id s ≡ r → after_id t s r ≡ Ok (status.Complete h) → IsHeader h s
    at-id (status.NeedMore missing) f e = let z : ◌≡◌ {A = ℕ} 0 1 = cc in absurd (omega arith)
    at-id (status.Complete (x, n)) f e = at_size x n f (read_vint (drop n s)) refl e

-- so it has at most 16 octets
pub header_short : {h : TagHeader} {s : List ℕ} → IsHeader h s → h.len ≤ 16
header_short i = omega (arith, i.taken, i.at_most_8, i.vint.vint.at_most_8)

-- and at least 2, one of its ID and one of its size
pub header_long : {h : TagHeader} {s : List ℕ} → IsHeader h s → 2 ≤ h.len
header_long {h} {s} i = omega (arith, i.taken, (first_of_id (take i.n s) i.identifier).some, i.vint.vint.at_least_1)

-- and a known size has at most 56 bits
pub known_small : {h : TagHeader} {s : List ℕ} (m : ℕ) → IsHeader h s → h.size ≡ size.Known m → m < vint_limit
unfolding size_of
known_small {h} {s} m i e = go (all_ones i.L i.v) (sym i.size ∙ e)
  where
    small : i.v < vint_limit
    small =
        let k : 7 * i.L ≤ 56 = omega (arith, i.vint.vint.at_most_8) in
        lt_of_lt_of_le i.vint.vint.below (pow_mono k)

    go : (b : Bool) → cond b size.Unknown (size.Known i.v) ≡ size.Known m → m < vint_limit
    go true f = let z : ◌≡◌ {A = ℕ} 0 1 = cc in absurd (omega arith)
    go false f = let v : i.v ≡ m = cc in subst (λ (x : ℕ). x < vint_limit) v small

-- its type and its path are those of its ID
pub header_spec : (t : List Entry) (s : List ℕ) (h : TagHeader) → read_header t s ≡ Ok (status.Complete h) → OfTable t h
unfolding read_header after_id sized
header_spec t s h e = at-id (read_tag_id s) e
  where
    at_size : (x n : ℕ) (r : Result (Status (ℕ × ℕ)) ToolError) → sized x (spec_for t x) n r ≡ Ok (status.Complete h) → OfTable t h
    at_size x n (Ok (status.NeedMore missing)) e = let z : ◌≡◌ {A = ℕ} 0 1 = cc in absurd (omega arith)
    at_size x n (Err o) e = let z : ◌≡◌ {A = ℕ} 0 1 = cc in absurd (omega arith)
    at_size x n (Ok (status.Complete (v, L))) e = rw (← (made x n v L (spec_for t x) h e).0) (record { kind = refl; path = refl })

    at-id : (r : Status (ℕ × ℕ)) → after_id t s r ≡ Ok (status.Complete h) → OfTable t h
    at-id (status.NeedMore missing) e = let z : ◌≡◌ {A = ℕ} 0 1 = cc in absurd (omega arith)
    at-id (status.Complete (x, n)) e = at_size x n (read_vint (drop n s)) e

-- ---- a header is answered exactly where it stands in front

-- a header that stands at the front, with what the table says of its ID, is read
pub header_complete : (t : List Entry) (s : List ℕ) (h : TagHeader) → IsHeader h s → OfTable t h → read_header t s ≡ Ok (status.Complete h)
unfolding read_header after_id sized sized_by
header_complete t s h i o =
    let long : too_long (data_type_of t h.id) i.v ≡ false = rw o.kind at i.fits in
    rw (id_complete s h.id i.n i.identifier, front_read (drop i.n s) i.vint, long, ← o.kind, ← o.path, ← i.size, ← i.taken)

pub header_exactly : (t : List Entry) (s : List ℕ) (h : TagHeader) → Octets s → (read_header t s ≡ Ok (status.Complete h)) ↔ (IsHeader h s × OfTable t h)
header_exactly t s h byte = (λ e. (header_sound t s h byte e, header_spec t s h e), λ p. header_complete t s h p.0 p.1)

-- ---- need more, and what is refused

-- a size that was read asks for no more
sized_asks_none : (x n v L : ℕ) (spec : Spec) → header_needs_more (sized_by x spec n v L) ≡ false
unfolding sized_by
sized_asks_none x n v L spec = go (too_long spec.kind v)
  where
    go : (b : Bool) → header_needs_more (cond b (Err InvalidTagData) (Ok (status.Complete (header_of x spec n v L)))) ≡ false
    go true = refl
    go false = refl

-- more is asked for exactly where less than the octets of an ID and of a size VINT is there
pub header_needs_more_lem : (t : List Entry) (s : List ℕ) → Octets s → (header_needs_more (read_header t s) ≡ true) ↔ HeaderPart s
unfolding read_header after_id sized
header_needs_more_lem t s byte = (at-id (read_tag_id s) refl, λ p. asks p.identifier p.vint p.part (dec_le p.n (length s)))
  where
    at_size : (x n : ℕ) → read_tag_id s ≡ status.Complete (x, n) → (r : Result (Status (ℕ × ℕ)) ToolError) → read_vint (drop n s) ≡ r → header_needs_more (sized x (spec_for t x) n r) ≡ true → HeaderPart s
    at_size x n f (Ok (status.NeedMore missing)) g m =
        let q = (vint_needs_more_lem (drop n s) (octets_drop n s byte)).0 (rw g) in
        record {
          x = x;
          n = n;
          L = q.L;
          v = q.v;
          id_octets = take n s;
          size_octets = q.octets;
          identifier = id_sound s x n byte f;
          vint = q.vint;
          part = record {
            missing = q.part.missing;
            some = q.part.some;
            joined = sym (rw (← q.part.joined) (sym (append_assoc (take n s) (drop n s) q.part.missing) ∙ rw (take-append-drop n s)));
          };
        }
    at_size x n f (Err o) g m = absurd (true≢false (sym m))
    at_size x n f (Ok (status.Complete (v, L))) g m = absurd (true≢false (sym m ∙ sized_asks_none x n v L (spec_for t x)))

    at-id : (r : Status (ℕ × ℕ)) → read_tag_id s ≡ r → header_needs_more (after_id t s r) ≡ true → HeaderPart s
    at-id (status.NeedMore missing) f m =
        let q = (id_needs_more_lem s byte).0 (rw f) in
        record {
          x = q.x;
          n = q.n;
          L = 1;
          v = 0;
          id_octets = q.octets;
          size_octets = vint_bytes 1 0;
          identifier = q.identifier;
          vint = written_is 1 0 (omega arith) (omega arith) (omega arith);
          part = record {
            missing = q.part.missing ++ vint_bytes 1 0;
            some = rw length-append (omega (arith, q.part.some));
            joined = sym (append_assoc s q.part.missing (vint_bytes 1 0)) ∙ rw q.part.joined;
          };
        }
    at-id (status.Complete (x, n)) f m = at_size x n f (read_vint (drop n s)) refl m

    at-vint : (x n : ℕ) (r : Result (Status (ℕ × ℕ)) ToolError) → vint_needs_more r ≡ true → header_needs_more (sized x (spec_for t x) n r) ≡ true
    at-vint x n (Ok (status.NeedMore missing)) q = refl
    at-vint x n (Err o) q = absurd (true≢false (sym q))
    at-vint x n (Ok (status.Complete (v, L))) q = absurd (true≢false (sym q))

    at-nothing : (r : Status (ℕ × ℕ)) → id_needs_more r ≡ true → header_needs_more (after_id t s r) ≡ true
    at-nothing (status.NeedMore missing) q = refl
    at-nothing (status.Complete (x, l)) q = absurd (true≢false (sym q))

    asks : {x n L v : ℕ} {i z : List ℕ} → IsId x n i → IsVint L v z → ProperPrefix s (i ++ z) → Dec (n ≤ length s) → header_needs_more (read_header t s) ≡ true
    asks {x} {n} {L} {v} {i} {z} identifier vint part (yes h) =
        let front : take n s ≡ i = sym (take-append-le n s part.missing h) ∙ ap (take n) part.joined ∙ take_at i z n identifier.count in
        let rest : drop n s ++ part.missing ≡ z = sym (drop-append-le n s part.missing h) ∙ ap (drop n) part.joined ∙ drop_at i z n identifier.count in
        let q : VintPart (drop n s) =
        record { L = L; v = v; octets = z; vint = vint; part = record { missing = part.missing; some = part.some; joined = rest } } in
        rw (id_complete s x n (rw front identifier)) (at-vint x n (read_vint (drop n s)) ((vint_needs_more_lem (drop n s) (octets_drop n s byte)).1 q))
    asks {x} {n} {L} {v} {i} {z} identifier vint part (no f) =
        let k = n - length s in
        let e : length s + k ≡ n = omega arith in
        let front : s ++ take k part.missing ≡ i = sym (take-append-add s part.missing k) ∙ rw e (ap (take n) part.joined ∙ take_at i z n identifier.count) in
        let some : 0 < length (take k part.missing) = rw length-take (omega (arith, part.some)) in
        let q : IdPart s =
        record { x = x; n = n; octets = i; identifier = identifier; part = record { missing = take k part.missing; some = some; joined = front } } in
        at-nothing (read_tag_id s) ((id_needs_more_lem s byte).1 q)

-- a size that is refused is too long
refused_size : (x n v L : ℕ) (spec : Spec) (e : ParseError) → sized_by x spec n v L ≡ Err e → (e ≡ InvalidTagData) × (too_long spec.kind v ≡ true)
unfolding sized_by
refused_size x n v L spec e r = go (too_long spec.kind v) refl
  where
    go : (b : Bool) → too_long spec.kind v ≡ b → (e ≡ InvalidTagData) × (too_long spec.kind v ≡ true)
    go true f = let r' = rw f at r in let g : e ≡ InvalidTagData = cc in (g, f)
    go false f =
        let r' = rw f at r in
        let z : ◌≡◌ {A = ℕ} 0 1 = cc in
        absurd (omega arith)

-- refusal 14 comes exactly where a bad size stands after an ID, and no other comes
pub header_refused : (t : List Entry) (s : List ℕ) (e : ParseError) → Octets s → (read_header t s ≡ Err e) ↔ ((e ≡ InvalidTagData) × BadSize t s)
unfolding read_header after_id sized sized_by
header_refused t s e byte = (at-id (read_tag_id s) refl, λ p. answers p.0 p.1 p.1.bad)
  where
    at_size : (x n : ℕ) → read_tag_id s ≡ status.Complete (x, n) → (r : Result (Status (ℕ × ℕ)) ToolError) → read_vint (drop n s) ≡ r → sized x (spec_for t x) n r ≡ Err e → (e ≡ InvalidTagData) × BadSize t s
    at_size x n f (Ok (status.NeedMore missing)) g q = let z : ◌≡◌ {A = ℕ} 0 1 = cc in absurd (omega arith)
    at_size x n f (Err o) g q =
        let same : e ≡ InvalidTagData = cc in
        (same, record { x = x; n = n; identifier = id_sound s x n byte f; bad = inl ((vint_refused (drop n s) o).0 g).1 })
    at_size x n f (Ok (status.Complete (v, L))) g q =
        let r = refused_size x n v L (spec_for t x) e q in
        let front = read_sound (drop n s) L v (octets_drop n s byte) g in
        (r.0, record { x = x; n = n; identifier = id_sound s x n byte f; bad = inr (record { L = L; v = v; vint = front; over = r.1 }) })

    at-id : (r : Status (ℕ × ℕ)) → read_tag_id s ≡ r → after_id t s r ≡ Err e → (e ≡ InvalidTagData) × BadSize t s
    at-id (status.NeedMore missing) f q = let z : ◌≡◌ {A = ℕ} 0 1 = cc in absurd (omega arith)
    at-id (status.Complete (x, n)) f q = at_size x n f (read_vint (drop n s)) refl q

    answers : e ≡ InvalidTagData → (b : BadSize t s) → FirstByte0 (drop b.n s) ⊎ TooLongSize (data_type_of t b.x) (drop b.n s) → read_header t s ≡ Err e
    answers same b (inl z) = rw (id_complete s b.x b.n b.identifier, (vint_refused (drop b.n s) ReadVintOverflow).1 (refl, z), same)
    answers same b (inr l) = rw (id_complete s b.x b.n b.identifier, front_read (drop b.n s) l.vint, l.over, same)

-- an answer that asks for no more stays when bytes are appended
pub header_local : (t : List Entry) (s u : List ℕ) → get_or s 0 0 < 256 → header_needs_more (read_header t s) ≡ false → read_header t (s ++ u) ≡ read_header t s
unfolding read_header after_id sized
header_local t s u byte some = at-id (read_tag_id s) refl
  where
    same : (x n : ℕ) → read_tag_id s ≡ status.Complete (x, n) → vint_needs_more (read_vint (drop n s)) ≡ false → read_header t (s ++ u) ≡ read_header t s
    same x n f k = rw (id_local s u f, f, drop-append-le n s u (id_front s byte f).whole, read_local (drop n s) u k)

    at_size : (x n : ℕ) → read_tag_id s ≡ status.Complete (x, n) → (r : Result (Status (ℕ × ℕ)) ToolError) → read_vint (drop n s) ≡ r → read_header t (s ++ u) ≡ read_header t s
    at_size x n f (Ok (status.NeedMore missing)) g = absurd (true≢false (rw (f, g) at some))
    at_size x n f (Err o) g = same x n f (rw g)
    at_size x n f (Ok (status.Complete (v, L))) g = same x n f (rw g)

    at-id : (r : Status (ℕ × ℕ)) → read_tag_id s ≡ r → read_header t (s ++ u) ≡ read_header t s
    at-id (status.NeedMore missing) f = absurd (true≢false (rw f at some))
    at-id (status.Complete (x, n)) f = at_size x n f (read_vint (drop n s)) refl
