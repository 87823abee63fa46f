-- One turn of the walk, over the caller's rows.
use Rattle.std.proofs.Common.{◌≡◌, ℕ, zero, suc, ◌+◌, ◌-◌, ◌<◌, ◌≤◌, true, false, List, [], ◌∷◌, ◌++◌, map, length, get_or, take, drop, set, replicate, Some, Ok, Err, sym, refl, ap, ◌∙◌, arith}
use Rattle.std.proofs.lemmas.List.{length-append, length-set, length-take-le, take-append-drop, take_more, take_more_set, drop_more, drop-set-lt, drop_all}
use Rattle.std.proofs.lemmas.Bool.{cond-true, cond-false, le-ltb}
use Rattle.std.specs.List.{All}
use Rattle.std.proofs.lemmas.List.Elements.{All-nil, All-same, All-push, All-pop, All-weaker}
use Rattle.std.proofs.lemmas.Grind.{drop_more_same}
use Rattle.packet.specs.Packets.{byte, header_like, bytes_of, filler}
use Rattle.carrier.specs.Cells.{Cell, holds, cell_at, reply}
use Rattle.carrier.specs.declared.fault.CarrierFault.{CarrierFault}
use Rattle.label.specs.Headers.{header_words}
use Rattle.reading.specs.Contents.{Contents}
use Rattle.reading.specs.Files.{packets, reads}
use Rattle.groups.specs.declared.GroupRow.{GroupRow}
use Rattle.groups.specs.Groups.{groups_of, listed, shown, Ready}
use Rattle.groups.proofs.Scans.{opens, more, grown, step, scanned, grown_last, packets-scanned, scanned_longer}

-- a row with fewer packets than were walked
abbrev pub Fewer : ℕ → GroupRow → Type 0
Fewer k r = r.packets < k

-- before packet k, with n rows written
pub record Walked (cs : List Cell) (end k n : ℕ) (rows old : List GroupRow) : Type 0 where
  pub ready : Ready cs end (length old)
  pub rest : scanned (take n rows) k (drop k (packets ready.contents)) ≡ groups_of ready.contents
  pub kept : drop n rows ≡ drop n old
  pub within : n ≤ length rows
  pub some : 0 < k → 0 < n
  pub below : All (Fewer k) (take n rows)

-- a cell of a file, up to its end, holds its packet
row_held : (ps : List (List ℕ)) (ds : List Cell) (k : ℕ) → k < length ps → cell_at (map holds ps ++ ds) k ≡ Some (holds (get_or ps k []))
row_held [] ds k h = absurd (omega arith)
row_held (p ∷ ps) ds zero h = refl
row_held (p ∷ ps) ds (suc k) h = row_held ps ds k (omega arith)

ready_held : (cs : List Cell) (end room k : ℕ) (r : Ready cs end room) → k < end + 1 → cell_at cs k ≡ Some (holds (get_or (packets r.contents) k []))
ready_held cs end room k r h =
    let ps = packets r.contents in
    let e = r.last in
    ap (λ v. cell_at v k) r.file.laid ∙ row_held ps (replicate (length cs - length ps) (holds filler)) k (omega arith)

-- so that it is never refused
pub ready_never : {A : Type 0} (cs : List Cell) (end room k : ℕ) → Ready cs end room → (f : CarrierFault) → reply k (cell_at cs k) ≡ Err f → k < end + 1 → A
ready_never cs end room k r f e h =
    let a = sym e ∙ ap (reply k) (ready_held cs end room k r h) in
    let z : ◌≡◌ {A = ℕ} 0 1 = cc in
    absurd (omega arith)

packet_is : (cs : List Cell) (end room k : ℕ) (r : Ready cs end room) (p : List ℕ) → k < end + 1 → cell_at cs k ≡ Some (holds p) → get_or (packets r.contents) k [] ≡ p
packet_is cs end room k r p h e = let a = ready_held cs end room k r h in cc

-- the walk's start
pub walk_start : (cs : List Cell) (end : ℕ) (old : List GroupRow) → Ready cs end (length old) → Walked cs end 0 0 old old
walk_start cs end old r = record {
  ready = r;
  rest = packets-scanned r.contents r.file.lawful;
  kept = refl;
  within = omega arith;
  some = λ h. absurd (omega arith);
  below = All-nil (Fewer 0);
}

-- the next packet in the walk
scan_more : (acc : List GroupRow) (k : ℕ) (ps : List (List ℕ)) → k < length ps → scanned acc k (drop k ps) ≡ scanned (step acc k (get_or ps k [])) (k + 1) (drop (k + 1) ps)
scan_more acc k ps h =
    let e : suc k ≡ k + 1 = omega arith in
    ap (scanned acc k) (drop_more ps k [] h) ∙ ap (λ v. scanned (step acc k (get_or ps k [])) v (drop (k + 1) ps)) e

-- a header finds room
pub header_room : (cs : List Cell) (end k n : ℕ) (rows old : List GroupRow) → length rows ≡ length old → Walked cs end k n rows old → k < end + 1 → (p : List ℕ) → cell_at cs k ≡ Some (holds p) → header_like p ≡ true → n < length rows
header_room cs end k n rows old le w h p e t =
    let r = w.ready in
    let ps = packets r.contents in
    let acc = take n rows in
    let l = r.last in
    let m = r.room in
    let i = w.within in
    let a : scanned (acc ++ opens k p ∷ []) (k + 1) (drop (k + 1) ps) ≡ groups_of r.contents =
    ap (λ v. scanned v (k + 1) (drop (k + 1) ps)) (sym (ap (step acc k) (packet_is cs end (length old) k r p h e) ∙ cond-true _ _ _ t)) ∙ sym (scan_more acc k ps (omega arith)) ∙ w.rest in
    let b = scanned_longer (acc ++ opens k p ∷ []) (k + 1) (drop (k + 1) ps) in
    let c = length-append acc (opens k p ∷ []) in
    let d = length-take-le n rows w.within in
    let f = ap length a in
    omega arith

pub header_turn : (cs : List Cell) (end k n : ℕ) (rows old : List GroupRow) → length rows ≡ length old → Walked cs end k n rows old → k < end + 1 → (p : List ℕ) → cell_at cs k ≡ Some (holds p) → header_like p ≡ true → Walked cs end (k + 1) (n + 1) (set rows n (opens k p)) old
header_turn cs end k n rows old le w h p e t =
    let r = w.ready in
    let ps = packets r.contents in
    let acc = take n rows in
    let l = r.last in
    let i = header_room cs end k n rows old le w h p e t in
    let s : take (n + 1) (set rows n (opens k p)) ≡ acc ++ opens k p ∷ [] = take_more_set rows n (opens k p) i in
    let q : step acc k (get_or ps k []) ≡ acc ++ opens k p ∷ [] = ap (step acc k) (packet_is cs end (length old) k r p h e) ∙ cond-true _ _ _ t in
    let long : length (set rows n (opens k p)) ≡ length rows = length-set rows n (opens k p) in
    record {
      ready = r;
      rest = ap (λ v. scanned v (k + 1) (drop (k + 1) ps)) (s ∙ sym q) ∙ sym (scan_more acc k ps (omega arith)) ∙ w.rest;
      kept = drop-set-lt (n + 1) rows n (opens k p) (omega arith) ∙ drop_more_same rows old n w.kept;
      within = omega arith;
      some = λ _. omega arith;
      below = All-same (Fewer (k + 1)) _ _ s (All-push (Fewer (k + 1)) acc (opens k p) (All-weaker (Fewer k) (Fewer (k + 1)) (λ r h. omega arith) acc w.below) (omega arith));
    }

-- data has a row before it
first_header : (c : Contents) → header_like (get_or (packets c) 0 []) ≡ true
unfolding header_words byte bytes_of
first_header c = refl

pub data_some : (cs : List Cell) (end k n : ℕ) (rows old : List GroupRow) → Walked cs end k n rows old → k < end + 1 → (p : List ℕ) → cell_at cs k ≡ Some (holds p) → header_like p ≡ false → 0 < n
data_some cs end zero n rows old w h p e t =
    let a : true ≡ false = sym (first_header w.ready.contents) ∙ ap header_like (packet_is cs end (length old) 0 w.ready p h e) ∙ t in
    let z : ◌≡◌ {A = ℕ} 0 1 = cc in
    absurd (omega arith)
data_some cs end (suc k) n rows old w h p e t = w.some (omega arith)

last_row : (n m : ℕ) (rows : List GroupRow) (d : GroupRow) → n ≡ m + 1 → n ≤ length rows → take n rows ≡ take m rows ++ get_or rows m d ∷ []
last_row n m rows d e h = ap (λ v. take v rows) e ∙ take_more rows m d (omega arith)

pub data_few : (cs : List Cell) (end k n : ℕ) (rows old : List GroupRow) (d : GroupRow) → Walked cs end k n rows old → 0 < n → (get_or rows (n - 1) d).packets < k
data_few cs end k n rows old d w h =
    let s = last_row n (n - 1) rows d (omega arith) w.within in
    (All-pop (Fewer k) (take n rows) (take (n - 1) rows) (Some (get_or rows (n - 1) d)) s w.below).1

pub data_turn : (cs : List Cell) (end k n : ℕ) (rows old : List GroupRow) (d : GroupRow) → Walked cs end k n rows old → k < end + 1 → (p : List ℕ) → cell_at cs k ≡ Some (holds p) → header_like p ≡ false → Walked cs end (k + 1) n (set rows (n - 1) (more (get_or rows (n - 1) d))) old
data_turn cs end k n rows old d w h p e t =
    let r = w.ready in
    let ps = packets r.contents in
    let m = n - 1 in
    let x = get_or rows m d in
    let acc = take n rows in
    let l = r.last in
    let i = w.within in
    let o : 0 < n = data_some cs end k n rows old w h p e t in
    let f : n ≡ m + 1 = omega arith in
    let s : acc ≡ take m rows ++ x ∷ [] = last_row n m rows d f i in
    let u : take n (set rows m (more x)) ≡ take m rows ++ more x ∷ [] = ap (λ v. take v (set rows m (more x))) f ∙ take_more_set rows m (more x) (omega arith) in
    let q : step acc k (get_or ps k []) ≡ take m rows ++ more x ∷ [] = ap (step acc k) (packet_is cs end (length old) k r p h e) ∙ cond-false _ _ _ t ∙ ap grown s ∙ grown_last (take m rows) x in
    let long : length (set rows m (more x)) ≡ length rows = length-set rows m (more x) in
    let few = All-pop (Fewer k) acc (take m rows) (Some x) s w.below in
    record {
      ready = r;
      rest = ap (λ v. scanned v (k + 1) (drop (k + 1) ps)) (u ∙ sym q) ∙ sym (scan_more acc k ps (omega arith)) ∙ w.rest;
      kept = drop-set-lt n rows m (more x) (omega arith) ∙ w.kept;
      within = omega arith;
      some = λ _. o;
      below = All-same (Fewer (k + 1)) _ _ u (All-push (Fewer (k + 1)) (take m rows) (more x) (All-weaker (Fewer k) (Fewer (k + 1)) (λ r h. omega arith) (take m rows) few.0) (let a = few.1 in omega arith));
    }

-- the walk's end
pub walk_end : (cs : List Cell) (end k n : ℕ) (rows old : List GroupRow) → length rows ≡ length old → Walked cs end k n rows old → k ≡ end + 1 → (Ok n ≡ listed (length old) (reads cs)) × (rows ≡ shown (reads cs) old)
walk_end cs end k n rows old le w h =
    let r = w.ready in
    let c = r.contents in
    let ps = packets c in
    let l = r.last in
    let m = r.room in
    let a : take n rows ≡ groups_of c = sym (ap (scanned (take n rows) k) (drop_all k ps (omega arith))) ∙ w.rest in
    let b : n ≡ length (groups_of c) = sym (length-take-le n rows w.within) ∙ ap length a in
    let f = le-ltb (length old) (length (groups_of c)) m in
    let g : rows ≡ groups_of c ++ drop (length (groups_of c)) old = sym (take-append-drop n rows) ∙ (λ i. a i ++ w.kept i) ∙ ap (λ v. groups_of c ++ drop v old) b in
    (ap Ok b ∙ sym (ap (listed (length old)) r.read ∙ cond-false _ _ _ f), g ∙ sym (ap (λ v. shown v old) r.read ∙ cond-false _ _ _ f))
