-- What both calls have put stands at the start of each output, as long as they answer, and the lines of it fit ROOM.
use mathlib.Core.Path.{sym, ap, ◌∙◌}
use native.Mathlib.Omega.{arith}
use lib.ListN.{length}
use lib.Seq.{sets}
use Rattle.octets.proofs.Runs.{begin}
use Rattle.octets.specs.Text.{bytes}
use Rattle.wording.proofs.Texts.{put-start}
use Rattle.report.proofs.Fits.{printed-le}
use Rattle.report.proofs.Fronts.{header-front, uri-front, text-front, lines-printed, program-none, program-lines}
use Rattle.report.specs.Program.{bench_of}
use Rattle.report.proofs.program.Goals as goal

pub returns-then-out-lt-ROOM : goal.returns-then-out-lt-ROOM
returns-then-out-lt-ROOM c = let both = put-start (begin c.args.out.now 0) _ (program-none _ _ c.if-out-lt-ROOM.true) in record { value = both.0; out_after = both.1 }

pub slice_bounds-header-end-3 : goal.slice_bounds-header-end-3
unfolding bytes
slice_bounds-header-end-3 c = (header-front c.args.message.now _ c.header-headed.ensures.value c.header-headed.ensures.out_after).inside

pub slice_bounds-put_lines-end : goal.slice_bounds-put_lines-end
unfolding bytes
slice_bounds-put_lines-end c = (header-front c.args.message.now _ c.header-headed.ensures.value c.header-headed.ensures.out_after).long

pub slice_bounds-uri-end : goal.slice_bounds-uri-end
unfolding bytes
slice_bounds-uri-end c = (uri-front c.args.message.now _ c.text-worded.ensures.value c.text-worded.ensures.uri_after).inside

pub slice_bounds-put_lines-end-2 : goal.slice_bounds-put_lines-end-2
unfolding bytes
slice_bounds-put_lines-end-2 c = (uri-front c.args.message.now _ c.text-worded.ensures.value c.text-worded.ensures.uri_after).long

pub slice_bounds-text-end-4 : goal.slice_bounds-text-end-4
unfolding bytes
slice_bounds-text-end-4 c = (text-front c.args.message.now _ c.text-worded.ensures.value c.text-worded.ensures.text_after).inside

pub slice_bounds-put_lines-end-3 : goal.slice_bounds-put_lines-end-3
unfolding bytes
slice_bounds-put_lines-end-3 c = (text-front c.args.message.now _ c.text-worded.ensures.value c.text-worded.ensures.text_after).long

pub put_lines-requires : goal.put_lines-requires
unfolding bytes
put_lines-requires c =
    let m = c.args.message.now in
    let h = header-front m _ c.header-headed.ensures.value c.header-headed.ensures.out_after in
    let u = uri-front m _ c.text-worded.ensures.value c.text-worded.ensures.uri_after in
    let t = text-front m _ c.text-worded.ensures.value c.text-worded.ensures.text_after in
    let lines = lines-printed (bench_of m) _ _ c.header-headed.ensures.value c.text-worded.ensures.value h.is u.is t.is in
    omega (arith, ap length lines, printed-le m, c.if-out-lt-ROOM.false)

pub returns : goal.returns
unfolding bytes
returns c =
    let m = c.args.message.now in
    let h = header-front m _ c.header-headed.ensures.value c.header-headed.ensures.out_after in
    let u = uri-front m _ c.text-worded.ensures.value c.text-worded.ensures.uri_after in
    let t = text-front m _ c.text-worded.ensures.value c.text-worded.ensures.text_after in
    let lines = lines-printed (bench_of m) _ _ c.header-headed.ensures.value c.text-worded.ensures.value h.is u.is t.is ∙ sym (program-lines _ m c.if-out-lt-ROOM.false) in
    record { value = c.put_lines.ensures.value ∙ ap length lines; out_after = c.put_lines.ensures.out_after ∙ ap (sets c.args.out.now 0) lines }
