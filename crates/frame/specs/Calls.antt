-- The calls on frames: "Read frame or slip; write frame or slip". Assumes nothing.
use Rattle.std.specs.Prelude.{ℕ, zero, suc, cond, List, ◌++◌, length, drop, nat_le, None, Option, Some}
use Rattle.causal.specs.Codes.{check}
use Rattle.frame.specs.declared.entry.Frame.{Frame}
use Rattle.frame.specs.Refusals.{Reply, replied}
use Rattle.frame.specs.Frames.{ring_ok, frame_words, frame_ok, frame_of, accepts, blank_frame}

-- words in front of a row: "Words of a row beyond those named stay"
unfoldable pub laid : List ℕ → List ℕ → List ℕ
laid ws row = ws ++ drop (length ws) row

-- the same where there is no refusal, else the row as it came
unfoldable pub laid_if : ℕ → List ℕ → List ℕ → List ℕ
laid_if zero ws row = laid ws row
laid_if (suc c) ws row = row

-- "Reading, with ring size and plots given: 1 if these are out of range, then 9 if it breaks a rule above"
unfoldable pub read_frame_code : ℕ → ℕ → List ℕ → ℕ
read_frame_code n p ws = check (ring_ok n p) 1 (check (accepts n p ws) 9 0)

-- the frame that is read; on a refusal a fixed blank
unfoldable pub frame_if : ℕ → List ℕ → Frame
frame_if zero ws = frame_of ws
frame_if (suc c) ws = blank_frame

unfoldable pub read_frame : ℕ → ℕ → List ℕ → Frame
read_frame n p ws = frame_if (read_frame_code n p ws) ws

-- the frame that a row has, where it is one for n offices and p plots
unfoldable pub frame_in : ℕ → ℕ → List ℕ → Option Frame
frame_in n p ws = cond (accepts n p ws) (Some (frame_of ws)) None

-- "Writing: 3 for content that no frame or slip of its ring size with 64 plots has, then 8"
unfoldable pub write_frame_code : Frame → ℕ → ℕ
write_frame_code f room = check (frame_ok f.offices 64 f) 3 (check (nat_le (length (frame_words f)) room) 8 0)

-- "the number of words written is returned"
unfoldable pub write_frame : Frame → ℕ → Reply
write_frame f room = replied (write_frame_code f room) (length (frame_words f))

-- the row that is left
unfoldable pub write_frame_row : Frame → List ℕ → List ℕ
write_frame_row f row = laid_if (write_frame_code f (length row)) (frame_words f) row
