-- The text of a revision that is known by its node.
use Rattle.std.specs.Prelude.{ℕ, zero, suc, ◌-◌, ◌/◌, ◌^◌, List, [], ◌++◌, length, take, drop, nat_lt, Bool, true, false, ◌||◌, Option, Some, None, Result, Ok, Err, slice_get, unwrap_or, if◌then◌else◌}
use Rattle.std.specs.Option.{option_map}
use Rattle.hgs_bytes.specs.Bytes.{same}
use Rattle.hgs_index.specs.declared.kinds.Span.{Span}
use Rattle.hgs_index.specs.Inline.{is_inline, whole_item}
use Rattle.hgs_revlog.specs.declared.fault.RevFault.{RevFault}
use Rattle.hgs_revlog.specs.declared.fault.RevFault.TheVariants.{Missing}
use Rattle.hgs_revlog.specs.declared.fault.Tail.TheVariants.{Until}
use Rattle.hgs_revlog.specs.Load.{loaded, loaded_either}
use Rattle.hgs_revlog.specs.Log.{Log, place_of}
use Rattle.hgs_revlog.specs.Text.{span_in, text_of}
use Rattle.hgs_load.specs.declared.answer.ReadAnswer.{ReadAnswer}
use Rattle.hgs_load.specs.Asks.{Asks, answer, read, then_asks}
use Rattle.hgs_reader.specs.Line.{chunk_asks}
use Rattle.hgs_load.specs.View.{piece_length, most_pieces, revlog_refusal, log_answer}

-- whether one of so many entries has this node
abbrev pub has_node : List ℕ → ℕ → List ℕ → Bool
has_node node zero entries = false
has_node node (suc n) entries = same (take 20 (drop 32 entries)) node || has_node node n (drop 64 entries)

abbrev pub is_last_of : List ℕ → List ℕ → Bool
is_last_of node piece = nat_lt (length piece) piece_length || has_node node (length piece / 64) piece

abbrev pub item_or : List ℕ → Option (List ℕ × List ℕ) → (List ℕ → Bool) → Bool
item_or node None more = false
item_or node (Some item) more = same (take 20 (drop 32 item.0)) node || more item.1

-- whether one of so many entries of an inline index, which stands there with its chunk, has this node
abbrev pub has_item : List ℕ → ℕ → List ℕ → Bool
has_item node zero bytes = false
has_item node (suc n) bytes = item_or node (whole_item bytes) (has_item node n)

-- whether no piece of an index in this form is read behind these bytes, of which the last piece is this
abbrev pub is_far : Bool → List ℕ → List ℕ → List ℕ → Bool
is_far false node bytes piece = is_last_of node piece
is_far true node bytes piece = nat_lt (length piece) piece_length || has_item node (length bytes) bytes

-- The index is read in pieces, each from the place where the one before ended, until what was read has the node or a piece is shorter, or as many were read as may be.
abbrev pub pieces_until : Bool → List ℕ → List ℕ → ℕ → List ℕ → Asks (Result (List ℕ) ReadAnswer)
pieces_until inline index node zero bytes = answer (Ok bytes)
pieces_until inline index node (suc left) bytes =
    read index (length bytes) piece_length (λ piece.
    if is_far inline node (bytes ++ unwrap_or piece []) (unwrap_or piece []) then answer (Ok (bytes ++ unwrap_or piece []))
    else pieces_until inline index node left (bytes ++ unwrap_or piece []))

-- Of a separate index, as many pieces hold more revisions than a revlog may have; an inline one may have 2^48 bytes of chunks.
abbrev pub more_pieces : Bool → ℕ
more_pieces false = most_pieces - 1
more_pieces true = 2 ^ 33

-- what is asked once the first piece was read
abbrev pub bytes_behind : Bool → List ℕ → List ℕ → List ℕ → Asks (Result (List ℕ) ReadAnswer)
bytes_behind inline index node first = if is_far inline node first first then answer (Ok first) else pieces_until inline index node (more_pieces inline) first

-- the pieces of a separate index
abbrev pub bytes_until : List ℕ → List ℕ → ℕ → List ℕ → Asks (Result (List ℕ) ReadAnswer)
bytes_until = pieces_until false

-- the revisions up to the one with this node; what follows it is not looked at
abbrev pub log_until : List ℕ → List ℕ → Asks (Result Log ReadAnswer)
log_until index node = then_asks (bytes_until index node most_pieces []) (λ bytes. answer (log_answer index (loaded (Until (record { 0 = node })) bytes)))

abbrev pub chunk_placed : List ℕ → Option Span → List ℕ
chunk_placed bytes None = []
chunk_placed bytes (Some span) = take span.len (drop span.from bytes)

abbrev pub text_answer : List ℕ → Result (List ℕ) RevFault → Result (List ℕ) ReadAnswer
text_answer index (Ok text) = Ok text
text_answer index (Err f) = Err (revlog_refusal index f)

-- the text of a revision, of which its chunk is read
abbrev pub text_at_asks : List ℕ → List ℕ → Log → Option ℕ → Asks (Result (List ℕ) ReadAnswer)
text_at_asks index chunks log None = answer (Err (revlog_refusal index Missing))
text_at_asks index chunks log (Some rev) = chunk_asks chunks (slice_get log.entries rev) (λ chunk. text_answer index (text_of log.entries rev chunk))

-- the text with this node, of a separate revlog with this index and these chunks
abbrev pub separate_asks : List ℕ → List ℕ → List ℕ → Asks (Result (List ℕ) ReadAnswer)
separate_asks index chunks node = then_asks (log_until index node) (λ log. text_at_asks index chunks log (place_of log.entries node))

-- the same where the first piece of the index was read
abbrev pub separate_behind : List ℕ → List ℕ → List ℕ → List ℕ → Asks (Result (List ℕ) ReadAnswer)
separate_behind index chunks node first =
    then_asks (then_asks (bytes_behind false index node first) (λ bytes. answer (log_answer index (loaded (Until (record { 0 = node })) bytes)))) (λ log. text_at_asks index chunks log (place_of log.entries node))

-- the text of a revision in the bytes of an inline index, where its chunk stands behind its entry
abbrev pub placed_text : List ℕ → List ℕ → Log → Option ℕ → Result (List ℕ) ReadAnswer
placed_text index bytes log None = Err (revlog_refusal index Missing)
placed_text index bytes log (Some rev) = text_answer index (text_of log.entries rev (chunk_placed bytes (option_map (span_in log.inline rev) (slice_get log.entries rev))))

abbrev pub inline_text : List ℕ → List ℕ → List ℕ → Result Log RevFault → Result (List ℕ) ReadAnswer
inline_text index node bytes (Err f) = Err (revlog_refusal index f)
inline_text index node bytes (Ok log) = placed_text index bytes log (place_of log.entries node)

-- the text with this node of an inline revlog, of which the first piece was read: nothing but the index is looked at
abbrev pub inline_behind : List ℕ → List ℕ → List ℕ → Asks (Result (List ℕ) ReadAnswer)
inline_behind index node first = then_asks (bytes_behind true index node first) (λ bytes. answer (inline_text index node bytes (loaded_either (Until (record { 0 = node })) bytes)))

-- The text with this node, of a revlog with this index and these chunks. The first piece of the index says whether the chunks stand in it.
abbrev pub text_asks : List ℕ → List ℕ → List ℕ → Asks (Result (List ℕ) ReadAnswer)
text_asks index chunks node =
    read index 0 piece_length (λ first.
    if is_inline (unwrap_or first []) then inline_behind index node (unwrap_or first []) else separate_behind index chunks node (unwrap_or first []))
