-- The page of a picture: one text of HTML, which needs no other. Below the picture it says what the
-- rows say of the cell under the pointer; arrow keys choose the cell beside it.
use Rattle.std.specs.Prelude.{ℕ, List, [], ◌∷◌, ◌++◌, codes}
use Rattle.std.specs.List.{concat}
use Rattle.run_pictures.specs.declared.pages.Form.{Form}
use Rattle.run_pictures.specs.declared.pages.Form.TheVariants.{Picture, Page}

-- what stands before the picture
abbrev pub page_front : List ℕ
page_front = concat (
    codes "<!DOCTYPE html>\n"
    ∷ codes "<html lang='en'>\n"
    ∷ codes "<head>\n"
    ∷ codes "<meta charset='utf-8'>\n"
    ∷ codes "<title>counterlab</title>\n"
    ∷ codes "<style>\n"
    ∷ codes "body { margin: 0 0 14em 0; font-family: monospace }\n"
    ∷ codes "#said { position: fixed; bottom: 0; left: 0; right: 0; height: 12em; margin: 0;\n"
    ∷ codes "padding: 6px; overflow: auto; background: white; border-top: 1px solid black;\n"
    ∷ codes "white-space: pre-wrap }\n"
    ∷ codes "g.chosen rect, g.chosen path { stroke: red; stroke-width: 2 }\n"
    ∷ codes "</style>\n"
    ∷ codes "</head>\n"
    ∷ codes "<body>\n" ∷ [])

-- what stands between the picture and the rows
abbrev pub page_middle : List ℕ
page_middle = concat (
    codes "<pre id='said'>Point at what is drawn. The arrow keys go on to the next cell.</pre>\n"
    ∷ codes "<pre id='rows' hidden>\n" ∷ [])

-- what stands after the rows: how the page finds its cells
abbrev pub page_script : List ℕ
page_script = concat (
    codes "</pre>\n"
    ∷ codes "<script>\n"
    ∷ codes "const newline = String.fromCharCode(10);\n"
    ∷ codes "const said = document.getElementById('said');\n"
    ∷ codes "const lines = new Map();\n"
    ∷ codes "const cells = new Map();\n"
    ∷ codes "const columns = new Set();\n"
    ∷ codes "const nodes = new Set();\n"
    ∷ codes "const add = (map, key, what) => map.set(key, (map.get(key) || []).concat([what]));\n"
    ∷ codes "const say = (t, node, words) => {\n"
    ∷ codes "add(lines, t + ' ' + node, words);\n"
    ∷ codes "columns.add(t);\n"
    ∷ codes "nodes.add(node);\n"
    ∷ codes "};\n"
    ∷ codes "for (const line of document.getElementById('rows').textContent.split(newline)) {\n"
    ∷ codes "const words = line.split(' ');\n"
    ∷ codes "if (words[0] === 'row')\n"
    ∷ codes "words.slice(2).forEach((word, node) => say(+words[1], node, word));\n"
    ∷ codes "if (words[0] === 'at') say(+words[1], +words[3], words.slice(4).join(' '));\n"
    ∷ codes "}\n"
    ∷ codes "const named = /^node ([0-9]+), configuration ([0-9]+)/;\n"
    ∷ codes "for (const group of document.querySelectorAll('g')) {\n"
    ∷ codes "const title = group.querySelector('title');\n"
    ∷ codes "const told = title && title.textContent.match(named);\n"
    ∷ codes "const tell = () => { said.textContent = title.textContent; };\n"
    ∷ codes "if (title && !told) group.addEventListener('pointerover', tell);\n"
    ∷ codes "if (!told) continue;\n"
    ∷ codes "add(cells, told[2] + ' ' + told[1], group);\n"
    ∷ codes "group.addEventListener('pointerover', () => choose(+told[2], +told[1], false));\n"
    ∷ codes "}\n" ∷ [])

-- what the page does when a cell is chosen
abbrev pub page_choose : List ℕ
page_choose = concat (
    codes "let now = null;\n"
    ∷ codes "function choose(t, node, go) {\n"
    ∷ codes "const key = t + ' ' + node;\n"
    ∷ codes "if (!lines.has(key)) return;\n"
    ∷ codes "const groups = cells.get(key) || [];\n"
    ∷ codes "for (const group of document.querySelectorAll('g.chosen'))\n"
    ∷ codes "group.classList.remove('chosen');\n"
    ∷ codes "groups.forEach((group) => group.classList.add('chosen'));\n"
    ∷ codes "now = [t, node];\n"
    ∷ codes "const hears = newline + '    hears ';\n"
    ∷ codes "const told = lines.get(key).map((words) =>\n"
    ∷ codes "words.replace(' votes', hears + 'votes').replace(' saw', hears + 'saw'));\n"
    ∷ codes "const head = 'configuration ' + t + ', node ' + node;\n"
    ∷ codes "said.textContent = [head].concat(told).join(newline);\n"
    ∷ codes "if (go && groups.length)\n"
    ∷ codes "groups[0].scrollIntoView({ block: 'nearest', inline: 'nearest' });\n"
    ∷ codes "}\n" ∷ [])

-- what it does for keys
abbrev pub page_keys : List ℕ
page_keys = concat (
    codes "function beside(set, number, by) {\n"
    ∷ codes "const list = [...set];\n"
    ∷ codes "const place = list.indexOf(number) + by;\n"
    ∷ codes "return list[Math.min(Math.max(place, 0), list.length - 1)];\n"
    ∷ codes "}\n"
    ∷ codes "const ways = {\n"
    ∷ codes "ArrowLeft: [-1, 0], ArrowRight: [1, 0], ArrowUp: [0, -1], ArrowDown: [0, 1],\n"
    ∷ codes "};\n"
    ∷ codes "document.addEventListener('keydown', (event) => {\n"
    ∷ codes "const way = ways[event.key];\n"
    ∷ codes "if (!way || !columns.size) return;\n"
    ∷ codes "event.preventDefault();\n"
    ∷ codes "const [t, node] = now || [[...columns][0], [...nodes][0]];\n"
    ∷ codes "choose(beside(columns, t, way[0]), beside(nodes, node, way[1]), true);\n"
    ∷ codes "});\n"
    ∷ codes "</script>\n"
    ∷ codes "</body>\n"
    ∷ codes "</html>\n" ∷ [])

-- what stands after a picture: the rows, and what the page does
abbrev pub page_behind : (rows : List ℕ) → List ℕ
page_behind rows = page_middle ++ (rows ++ (page_script ++ (page_choose ++ page_keys)))

-- a page of a picture and of the rows that it is of
abbrev pub page_text : (rows picture : List ℕ) → List ℕ
page_text rows picture = page_front ++ (picture ++ page_behind rows)

-- what is written of a picture: itself, or its page
abbrev pub formed : Form → (rows picture : List ℕ) → List ℕ
formed Picture rows picture = picture
formed Page rows picture = page_text rows picture
